-- What to leave out of a request, so that it has a solution. N are the names, S the solvables.
use Rattle.std.specs.Prelude.{◌≡◌, ◌⊎◌, ℕ, ◌<◌, Bool, true, false, All, Contains, List, None, length, slice_index_or}
use Rattle.std.specs.declared.vec.Vec.{Vec}
use Rattle.resolvo_pool.specs.Functions.{Provider}
use Rattle.resolvo_pool.specs.Types.ConditionalRequirement.{ConditionalRequirement}
use Rattle.solutions.specs.Solutions.{IsSolution, IsUnsolvable}
use Rattle.solutions.specs.declared.reason.Reason.{Reason}
use Rattle.solutions.specs.declared.reason.Reason.TheVariants as R
use Rattle.corrections.specs.Marks.{AreApart, HasNone, is_marked, kept, size}
use Rattle.corrections.specs.declared.correcting.Correction.{Correction}

module _ {N S : Type 0} (p : Provider N S) (requested : List ConditionalRequirement) where
  -- what is picked is a solution of the requirements that aren't left out; each requirement has a mark
  abbrev pub Corrects : {A : Type 0} → Correction S A → Type 0
  Corrects correction = IsSolution p (kept correction.left_out.items requested) correction.solvables.items
      × (length correction.left_out.items ≡ length requested)

  -- without fewer requirements there is no solution
  abbrev pub IsSmallest : List Bool → Type 0
  IsSmallest left_out = (fewer : List Bool) → size fewer < size left_out → IsUnsolvable p (kept fewer requested)

  -- where none of these is left out, there is no solution
  abbrev pub IsConflict : {A : Type 0} → Vec Bool A → Type 0
  IsConflict conflict = (left_out : List Bool) → AreApart conflict.items left_out → IsUnsolvable p
      (kept left_out requested)

  abbrev pub AreConflicts : {A : Type 0} → List (Vec Bool A) → Type 0
  AreConflicts conflicts = All IsConflict conflicts

  -- where none of these sets is left out, there is no solution
  abbrev pub IsCover : {A : Type 0} → List (Vec Bool A) → Type 0
  IsCover sets = (left_out : List Bool) → HasNone left_out sets → IsUnsolvable p (kept left_out requested)

-- a reason says that the request has this requirement
abbrev pub IsNamedBy : {N S : Type 0} → ConditionalRequirement → Reason N S → Type 0
IsNamedBy conditional reason = (reason ≡ R.Needs None conditional) ⊎ (reason ≡ R.Lacks None conditional)

-- one of the reasons does
abbrev pub IsNamed : {N S : Type 0} → List (Reason N S) → ConditionalRequirement → Type 0
IsNamed {N} {S} reasons conditional = (reason : Reason N S) × Contains reasons reason × IsNamedBy conditional reason

-- each requirement that they name, and that isn't left out, is marked
abbrev pub AreNamedMarked : {N S : Type 0} → List ConditionalRequirement → List Bool → List (Reason N S) → List Bool
    → Type 0
AreNamedMarked requested left_out reasons marks = (place : ℕ) (d : ConditionalRequirement) → place < length requested →
    is_marked left_out place ≡ false → IsNamed reasons (slice_index_or requested place d) → is_marked marks place ≡ true
