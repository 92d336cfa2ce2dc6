-- The words of a refusal.
use Rattle.std.specs.Prelude.{ℕ, List, codes}
use Rattle.resolvo_ids.specs.Types.StoreError.{StoreError}
use Rattle.resolvo_ids.specs.Types.StoreError.TheVariants.{OutOfMemory, IdSpace, UnknownId, LevelOutOfRange}
use Rattle.resolvo_ids.specs.Types.StoreError.TheVariants.{NotLoaded, NegatesParent, BadWatch, BadLearnt}
use Rattle.resolvo_ids.specs.Types.StoreError.TheVariants.{EmptyTrail, BadFraction, TooManyClauses, Cancelled}

abbrev pub words_of : StoreError → List ℕ
words_of OutOfMemory = codes "out of memory"
words_of IdSpace = codes "no id is left"
words_of UnknownId = codes "unknown id"
words_of LevelOutOfRange = codes "level out of range"
words_of NotLoaded = codes "requirement not loaded"
words_of NegatesParent = codes "the condition negates the parent"
words_of BadWatch = codes "the watch can't be moved so"
words_of BadLearnt = codes "not a learnt clause"
words_of EmptyTrail = codes "the trail is empty"
words_of BadFraction = codes "not a fraction of at most one"
words_of TooManyClauses = codes "too many clauses"
words_of Cancelled = codes "cancelled"
