-- What a provider of packages says, and the candidate lists that come of it. N are the names, S the solvables.
use Rattle.std.specs.Prelude.{◌≡◌, ◌<◌, ℕ, Bool, true, false, not, if◌then◌else◌}
use Rattle.std.specs.Prelude.{List, [], ◌∷◌, filter, All, Option, None, Some}
use Rattle.std.specs.List.{position_from, remove}
use Rattle.typed_ids.specs.declared.solvable_id_or_root.SolvableIdOrRoot.{SolvableIdOrRoot}
use Rattle.typed_ids.specs.declared.solvable_id_or_root.SolvableIdOrRoot.TheVariants.{Root, Solvable}
use Rattle.typed_ids.specs.declared.string_id.StringId.{StringId}
use Rattle.typed_ids.specs.declared.version_set_id.VersionSetId.{VersionSetId}
use Rattle.typed_ids.specs.declared.version_set_union_id.VersionSetUnionId.{VersionSetUnionId}
use Rattle.providers.specs.Dependencies.{Needs}
use Rattle.providers.specs.declared.candidates.Candidates.{Candidates}
use Rattle.providers.specs.declared.condition.Condition.{Condition}
use Rattle.providers.specs.declared.condition.Condition.TheVariants as Cond
use Rattle.providers.specs.declared.requirement.Requirement.{Requirement}
use Rattle.providers.specs.declared.requirement.Requirement.TheVariants.{Single, Union}

-- the ids that are known, and how they belong together
pub record Universe (N S : Type 0) : Type 0 where
  pub knows_string : StringId → Bool
  pub knows_name : N → Bool
  pub knows_solvable : S → Bool
  pub knows_set : VersionSetId → Bool
  pub knows_union : VersionSetUnionId → Bool
  pub knows_condition : ℕ → Bool
  -- the package of a solvable, and of a version set
  pub solvable_name : S → N
  pub set_name : VersionSetId → N
  -- the version sets of a union, in order
  pub union_sets : VersionSetUnionId → List VersionSetId
  pub condition : ℕ → Condition

module _ {N S : Type 0} (c : Universe N S) where
  -- ---- what is known is made of what is known
  abbrev pub AreSolvableNamesKnown : Type 0
  AreSolvableNamesKnown = (s : S) → c.knows_solvable s ≡ true → c.knows_name (c.solvable_name s) ≡ true

  abbrev pub AreSetNamesKnown : Type 0
  AreSetNamesKnown = (v : VersionSetId) → c.knows_set v ≡ true → c.knows_name (c.set_name v) ≡ true

  abbrev pub AreUnionSetsKnown : Type 0
  AreUnionSetsKnown = (u : VersionSetUnionId) → c.knows_union u ≡ true →
      All (λ v. c.knows_set v ≡ true) (c.union_sets u)

  -- of the condition of this index; the conditions that it joins have smaller indexes
  abbrev pub IsMadeOfKnown : ℕ → Condition → Type 0
  IsMadeOfKnown index (Cond.Binary operator left right) =
      (c.knows_condition left ≡ true) × (left < index) × (c.knows_condition right ≡ true) × (right < index)
  IsMadeOfKnown index (Cond.Requirement set) = c.knows_set set ≡ true

  abbrev pub AreOperandsKnown : Type 0
  AreOperandsKnown = (index : ℕ) → c.knows_condition index ≡ true → IsMadeOfKnown index (c.condition index)

-- the fixed answers of a provider
pub record Answers (N S : Type 0) : Type 0 where
  -- the candidates of a package, in the provider's order of listing
  pub candidates : N → List S
  -- whether the version set holds the solvable
  pub matches : VersionSetId → S → Bool
  -- the solvable of a package to try first
  pub favored : N → Option S
  -- the solvable of a package that alone may be picked
  pub locked : N → Option S
  -- the solvables of a package that may not be picked, each with the reason
  pub excluded : N → List (S × StringId)
  -- the solvables in the order of preference
  pub order : List S → List S
  -- what a solvable needs
  pub needs : S → Needs

-- the answered candidates of a package; no answer stands for none
abbrev pub candidates_of : {S A : Type 0} → Option (Candidates S A) → List S
candidates_of None = []
candidates_of (Some found) = found.candidates.items

-- the answered favored one
abbrev pub favored_of : {S A : Type 0} → Option (Candidates S A) → Option S
favored_of None = None
favored_of (Some found) = found.favored

-- the answered locked one
abbrev pub locked_of : {S A : Type 0} → Option (Candidates S A) → Option S
locked_of None = None
locked_of (Some found) = found.locked

-- the answered excluded ones, each with the reason
abbrev pub excluded_of : {S A : Type 0} → Option (Candidates S A) → List (S × StringId)
excluded_of None = []
excluded_of (Some found) = found.excluded.items

-- the members that pass the test, or, if inverse, those that don't, in order
abbrev pub filtered : {S : Type 0} → (S → Bool) → Bool → List S → List S
filtered test inverse list = filter (λ s. if inverse then not (test s) else test s) list

-- the list with s, which stands at this place, if there is one, at the front, and the rest in order
abbrev pub from_place : {S : Type 0} → S → List S → Option ℕ → List S
from_place s list None = list
from_place s list (Some place) = s ∷ remove list place

-- the list with the favored one, where it is among them, moved from its first place to the front
abbrev pub favored_first : {S : Type 0} → (S → S → Bool) → Option S → List S → List S
favored_first same None list = list
favored_first same (Some s) list = from_place s list (position_from (λ t. same t s) 0 list)

module _ {N S : Type 0} (universe : Universe N S) (answers : Answers N S) where
  -- the candidates of the set's package that it holds, and the others
  abbrev pub matching : VersionSetId → List S
  matching v = filtered (answers.matches v) false (answers.candidates (universe.set_name v))

  abbrev pub non_matching : VersionSetId → List S
  non_matching v = filtered (answers.matches v) true (answers.candidates (universe.set_name v))

  -- the candidate list of a version set: what it holds, in the order of preference, but the favored one first
  abbrev pub sorted : (S → S → Bool) → VersionSetId → List S
  sorted same v = favored_first same (answers.favored (universe.set_name v)) (answers.order (matching v))

-- the version sets of a requirement, in order
abbrev pub sets_of : {N S : Type 0} → Universe N S → Requirement → List VersionSetId
sets_of universe (Single v) = v ∷ []
sets_of universe (Union u) = universe.union_sets u

abbrev pub knows_requirement : {N S : Type 0} → Universe N S → Requirement → Bool
knows_requirement universe (Single v) = universe.knows_set v
knows_requirement universe (Union u) = universe.knows_union u

-- the key of the root is always known, that of a solvable where the solvable is
abbrev pub knows_key : {S : Type 0} → (S → Bool) → SolvableIdOrRoot S → Bool
knows_key knows Root = true
knows_key knows (Solvable s) = knows s
