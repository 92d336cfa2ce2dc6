-- The refusals: their numbers, and which of them a growth may answer.
use Rattle.std.specs.Prelude.{ℕ, Bool, IsTrue, ⊤, ◌^◌, min, nat_le}
use Rattle.typed_ids.specs.declared.error.StoreError.{StoreError}
use Rattle.typed_ids.specs.declared.error.StoreError.TheVariants.{OutOfMemory, IdSpace, UnknownId, LevelOutOfRange}
use Rattle.typed_ids.specs.declared.error.StoreError.TheVariants.{NotLoaded, NegatesParent, BadWatch, BadLearnt}
use Rattle.typed_ids.specs.declared.error.StoreError.TheVariants.{EmptyTrail, BadFraction, TooManyClauses, Cancelled}

-- the number that stands for a refusal
abbrev pub code_of : StoreError → ℕ
code_of OutOfMemory = 1
code_of IdSpace = 2
code_of UnknownId = 3
code_of LevelOutOfRange = 4
code_of NotLoaded = 5
code_of NegatesParent = 6
code_of BadWatch = 7
code_of BadLearnt = 8
code_of EmptyTrail = 9
code_of BadFraction = 10
code_of TooManyClauses = 11
code_of Cancelled = 12

-- what a growth may answer: want of memory, or want of ids where ids are out
abbrev pub IsGrowthRefusal : Bool → StoreError → Type 0
IsGrowthRefusal ids_out OutOfMemory = ⊤
IsGrowthRefusal ids_out IdSpace = IsTrue ids_out
IsGrowthRefusal ids_out _ = ⊥

-- dense storage ends before 2^40: it can't hold this index
abbrev pub is_too_dense : ℕ → Bool
is_too_dense index = nat_le (2 ^ 40) index

-- of ids that end before the limit none is left after the first `count`
abbrev pub are_ids_out : ℕ → ℕ → Bool
are_ids_out limit count = nat_le (min limit (2 ^ 40)) count
