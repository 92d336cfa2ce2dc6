-- Lists by the indexes of variables, and what is seen of short ones.
use Rattle.std.specs.Prelude.{ℕ, List, [], slice_index_or}
use Rattle.resolvo_queue.specs.Types.{manually_drop_value, ManuallyDrop}
use Rattle.smallvec.specs.SmallVec.{SmallVec}

-- the list that stands at a variable's index; past the end there is none
abbrev pub list_at : {X : Type 0} → List (List X) → ℕ → List X
list_at lists variable = slice_index_or lists variable []

-- the items, wherever they lie
abbrev pub items_in : {T : Type 0} → ManuallyDrop (SmallVec T) → List T
items_in list = (manually_drop_value list).items
