-- Why there is no solution. N are the names, S the solvables.
use Rattle.std.specs.Prelude.{◌≡◌, ℕ, ◌+◌, ◌<◌, Bool, true, false, All, Contains, List, [], ◌++◌, length, take, drop}
use Rattle.std.specs.Prelude.{Option, None, Some, ⊤}
use Rattle.resolvo_ids.specs.Types.VersionSetId.{VersionSetId}
use Rattle.resolvo_pool.specs.Dependencies.{Needs, Known, Unknown}
use Rattle.resolvo_pool.specs.Functions.{Provider}
use Rattle.resolvo_pool.specs.Provider.{matching, sets_of}
use Rattle.resolvo_pool.specs.Types.ConditionalRequirement.{ConditionalRequirement}
use Rattle.resolvo_pool.specs.Types.Requirement.{Requirement}
use Rattle.solutions.specs.Solutions.{IsSatisfied, is_among, is_respected}
use Rattle.solutions.specs.declared.reason.Reason.{Reason}
use Rattle.solutions.specs.declared.reason.Reason.TheVariants as R

-- the requirements of what is needed, and the constraints
abbrev pub requirements_in : Needs → List ConditionalRequirement
requirements_in (Known requirements constrains) = requirements
requirements_in (Unknown string) = []

abbrev pub constraints_in : Needs → List VersionSetId
constraints_in (Known requirements constrains) = constrains
constraints_in (Unknown string) = []

-- no version set of the requirement has a candidate
abbrev pub HasNoCandidate : {N S : Type 0} → Provider N S → Requirement → Type 0
HasNoCandidate p requirement = All (λ set. matching p.universe p.answers set ≡ []) (sets_of p.universe requirement)

module _ {N S : Type 0} (p : Provider N S) (requested : List ConditionalRequirement) where
  -- what a solvable requires; without one, what is requested
  abbrev pub required_by : Option S → List ConditionalRequirement
  required_by None = requested
  required_by (Some parent) = requirements_in (p.answers.needs parent)

  -- the packages, or the request, say so
  abbrev pub IsSo : Reason N S → Type 0
  IsSo (R.Needs parent conditional) = Contains (required_by parent) conditional
  IsSo (R.Lacks parent conditional) =
      Contains (required_by parent) conditional × HasNoCandidate p conditional.requirement
  IsSo (R.Limits solvable set) = Contains (constraints_in (p.answers.needs solvable)) set
  IsSo (R.Unknown solvable string) = p.answers.needs solvable ≡ Unknown string
  IsSo (R.Excluded solvable string) =
      Contains (p.answers.excluded (p.universe.solvable_name solvable)) (solvable, string)
  IsSo (R.Locked solvable) = p.answers.locked (p.universe.solvable_name solvable) ≡ Some solvable
  IsSo (R.OneVersion name) = ⊤

module _ {N S : Type 0} (p : Provider N S) (picked : List S) where
  -- if the solvable is picked, this is so; without a solvable, it is so
  abbrev pub IfPicked : Option S → Type 0 → Type 0
  IfPicked None Has = Has
  IfPicked (Some solvable) Has = is_among p picked solvable ≡ true → Has

  -- no two solvables of the package are picked
  abbrev pub IsOneVersion : N → Type 0
  IsOneVersion name = (s t : S) → is_among p picked s ≡ true → is_among p picked t ≡ true →
      p.universe.solvable_name s ≡ name → p.universe.solvable_name t ≡ name → s ≡ t

  -- no other solvable of its package is picked
  abbrev pub IsOnlyOne : S → Type 0
  IsOnlyOne solvable = (s : S) → is_among p picked s ≡ true →
      p.universe.solvable_name s ≡ p.universe.solvable_name solvable → s ≡ solvable

  -- these solvables meet what the reason demands
  abbrev pub IsMet : Reason N S → Type 0
  IsMet (R.Needs parent conditional) = IfPicked parent (IsSatisfied p (is_among p picked) conditional)
  IsMet (R.Lacks parent conditional) = IfPicked parent (IsSatisfied p (is_among p picked) conditional)
  IsMet (R.Limits solvable set) = is_among p picked solvable ≡ true → is_respected p (is_among p picked) set ≡ true
  IsMet (R.Unknown solvable string) = is_among p picked solvable ≡ false
  IsMet (R.Excluded solvable string) = is_among p picked solvable ≡ false
  IsMet (R.Locked solvable) = IsOnlyOne solvable
  IsMet (R.OneVersion name) = IsOneVersion name

-- all of them are so
abbrev pub AreSo : {N S : Type 0} → Provider N S → List ConditionalRequirement → List (Reason N S) → Type 0
AreSo p requested reasons = All (IsSo p requested) reasons

-- no choice of solvables meets all of them
abbrev pub AreEnough : {N S : Type 0} → Provider N S → List (Reason N S) → Type 0
AreEnough {N} {S} p reasons = (picked : List S) → All (IsMet p picked) reasons → ⊥

-- all of them but the one at this place
abbrev pub others : {X : Type 0} → ℕ → List X → List X
others place reasons = take place reasons ++ drop (place + 1) reasons

-- no reason is spare: for each a choice of solvables meets all others
abbrev pub NoReasonSpare : {N S : Type 0} → Provider N S → List (Reason N S) → Type 0
NoReasonSpare {N} {S} p reasons =
    (place : ℕ) → place < length reasons → (picked : List S) × All (IsMet p picked) (others place reasons)
