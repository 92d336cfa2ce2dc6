-- The clauses that a question goes through at a time, by their positions.
use Rattle.std.specs.Prelude.{◌≡◌, Bool, true, false, ◌==◌, ◌&&◌, if◌then◌else◌, List, Option, None, Some}
use Rattle.resolvo_queue.specs.Pick.{Offer}
use Rattle.resolvo_queue.specs.Scan.Positions.{IsBefore, has, is_after}
pub use Rattle.resolvo_queue.specs.declared.group.Group.{Group}
use Rattle.resolvo_queue.specs.Types.{Position, TrackedClause}
use Rattle.resolvo_queue.specs.declared.group.Group.TheVariants.{OfParent, OfAllParents}

-- a clause at the position is one of the group
abbrev pub is_in : Group → Position → Bool
is_in (OfParent first) p = p.first_of_parent == first
is_in OfAllParents p = true

-- no position of the group is before this one
abbrev pub start_of : Group → Position
start_of (OfParent first) = record { first_of_parent = first; number = 0 }
start_of OfAllParents = record { first_of_parent = 0; number = 0 }

-- the position, if it is of the group
abbrev pub only_in : Group → Option Position → Option Position
only_in group None = None
only_in group (Some p) = if is_in group p then Some p else None

-- the position is in the set, and of the group
abbrev pub has_of : Group → List Position → Position → Bool
has_of group set p = is_in group p && has set p

-- the position is in the set and of the group, behind another one, and no such one is between
pub record IsNextOf (group : Group) (set : List Position) (before p : Position) : Type 0 where
  pub there : has_of group set p ≡ true
  pub behind : IsBefore before p
  pub least : (r : Position) → has_of group set r ≡ true → IsBefore before r → is_after p r ≡ false

-- what the clauses of the group offer, and nothing of the others
abbrev pub offers_of : Group → (TrackedClause → Option Offer) → TrackedClause → Option Offer
offers_of group offers c = if is_in group c.position then offers c else None
