-- What version sets say of the packages that may be there.
use Rattle.std.specs.Prelude.{◌≡◌, ℕ, Bool, true, false, All, Any, Contains, List, [], Option, None, Some, MatchBool}
use Rattle.std.specs.Prelude.{slice_get}
use Rattle.debian_text.specs.Relations.{RelationText, relation_of}
use Rattle.debian_scenario.specs.Packages.{PackageText}
use Rattle.debian_installable.specs.Fields.{alternatives, is_blank}
use Rattle.debian_installable.specs.Installable.{architecture_of, are_free, are_met, is_free, is_group_met}
use Rattle.debian_installable.specs.Installable.{is_installable}
use Rattle.debian_directory.specs.Answers.{NameText, is_answer, is_lost, keeps_another, keeps_as_much, name_of}
use Rattle.debian_directory.specs.Answers.{has as is_there}
use Rattle.debian_directory.specs.declared.rules.Rules.{Rules}
use Rattle.resolvo_ids.specs.Types.VersionSetId.{VersionSetId}
use Rattle.resolvo_pool.specs.Dependencies.{Needs, Known, Unknown}
use Rattle.resolvo_pool.specs.PoolIds.{universe_in}
use Rattle.resolvo_pool.specs.Provider.{sets_of}
use Rattle.resolvo_pool.specs.Types.ConditionalRequirement.{ConditionalRequirement}
use Rattle.resolvo_pool.specs.Types.Requirement.{Requirement}
use Rattle.resolvo_pool.specs.Types.Requirement.TheVariants.{Single, Union}
use Rattle.debian_provider.specs.Answers.{Ids}
use Rattle.debian_provider.specs.Growing.{native_in, packages_in, request_in}
use Rattle.debian_provider.specs.Meaning.{HasSet, IsSet}
use Rattle.debian_provider.specs.Sets.{SetText, All as Whole, Meeting, has}
use Rattle.debian_provider.specs.declared.archive.Archive.{Archive}

module _ (rules : Rules) where
  -- packages of the scenario that may be there together, this one among them
  pub record IsThere (one : PackageText) (there : List PackageText) : Type 0 where
    pub known : All (Contains (packages_in rules)) there
    pub installable : is_installable (native_in rules) there ≡ true
    pub contains : Contains there one

  -- packages of the scenario that are an answer
  pub record IsAnswer (there : List PackageText) : Type 0 where
    pub known : All (Contains (packages_in rules)) there
    pub answers : is_answer (request_in rules) (packages_in rules) there ≡ true

  -- the package can't be there
  abbrev pub IsNowhere : PackageText → Type 0
  IsNowhere one = (there : List PackageText) → IsThere one there → ⊥

  -- where the package is there, the field's dependencies are met; it has no conflict of the field; nor by this relation
  abbrev pub AreMetFor : PackageText → List ℕ → Type 0
  AreMetFor one field =
      (there : List PackageText) → IsThere one there → are_met (native_in rules) there one field ≡ true

  abbrev pub AreFreeFor : PackageText → List ℕ → Type 0
  AreFreeFor one field =
      (there : List PackageText) → IsThere one there → are_free (native_in rules) there one field ≡ true

  abbrev pub IsFreeFor : PackageText → RelationText → Type 0
  IsFreeFor one relation =
      (there : List PackageText) → IsThere one there → is_free (native_in rules) there one (Some relation) ≡ true

  -- so of a group, and of a part, that isn't blank
  abbrev pub IsGroupMetFor : PackageText → List ℕ → Type 0
  IsGroupMetFor one group = is_blank group ≡ false → (there : List PackageText) → IsThere one there →
      is_group_met (native_in rules) there one group ≡ true

  abbrev pub IsPartFreeFor : PackageText → List ℕ → Type 0
  IsPartFreeFor one part = is_blank part ≡ false → (there : List PackageText) → IsThere one there →
      is_free (native_in rules) there one (relation_of part) ≡ true

  -- each such set of packages has a version of the name
  abbrev pub IsWantedBy : (List PackageText → Type 0) → NameText → Type 0
  IsWantedBy IsSuch name = (there : List PackageText) → IsSuch there → is_there (native_in rules) there name ≡ true

  -- each answer has one
  abbrev pub IsWanted : NameText → Type 0
  IsWanted = IsWantedBy IsAnswer

  -- where the package is there, the set has all that is there of this name
  abbrev pub Spares : PackageText → NameText → SetText → Type 0
  Spares one name set = (there : List PackageText) → IsThere one there → (other : PackageText) → Contains there other →
      name_of (native_in rules) other ≡ name → has (native_in rules) set other ≡ true

  -- so of the name of another package, if it isn't this one
  abbrev pub SparesOther : PackageText → NameText → PackageText → SetText → Type 0
  SparesOther one own other set =
      (name_of (native_in rules) other ≡ own → ⊥) → Spares one (name_of (native_in rules) other) set

  module _ (pool : Ids) where
    -- if the set has the package at a place, it is among the version sets, as one of the package's name
    abbrev pub IsOfferedAt : ℕ → List VersionSetId → SetText → Type 0
    IsOfferedAt place sets set = (p : PackageText) → slice_get (packages_in rules) place ≡ Some p →
        has (native_in rules) set p ≡ true → HasSet pool sets (name_of (native_in rules) p) set

    -- so for what meets a relation of this package
    abbrev pub IsOffered : PackageText → List VersionSetId → Option RelationText → Type 0
    IsOffered one sets None = Unit {0}
    IsOffered one sets (Some relation) =
        (place : ℕ) → IsOfferedAt place sets (Meeting relation (architecture_of (native_in rules) one))

    -- so for each alternative of a group
    abbrev pub IsGroupOffered : PackageText → List VersionSetId → List ℕ → Type 0
    IsGroupOffered one sets group = All (λ part. IsOffered one sets (relation_of part)) (alternatives group)

    -- one of the version sets is of the package's name, and has it
    abbrev pub IsMeant : List VersionSetId → PackageText → Type 0
    IsMeant sets p = (set : SetText) × HasSet pool sets (name_of (native_in rules) p) set
        × (has (native_in rules) set p ≡ true)

    -- in each such set of packages one is meant by the requirement, which has no condition
    abbrev pub IsDemand : (List PackageText → Type 0) → ConditionalRequirement → Type 0
    IsDemand IsSuch c = (c.condition ≡ None)
        × ((there : List PackageText) → IsSuch there → Any (IsMeant (sets_of (universe_in pool) c.requirement)) there)

    -- where the package is there, the version set has all that is there of its name
    abbrev pub IsLimit : PackageText → VersionSetId → Type 0
    IsLimit one v = (name : NameText) × (set : SetText) × IsSet pool v name set × Spares one name set

    -- what is needed is so of each set of packages with this one; if it can't be told, there is none
    abbrev pub AreNeeds : PackageText → Needs → Type 0
    AreNeeds one (Known requirements constrains) =
        All (IsDemand (IsThere one)) requirements × All (IsLimit one) constrains
    AreNeeds one (Unknown reason) = IsNowhere one

-- an answer that keeps all that these packages keep, and more
pub record IsKeepingMore (few : List PackageText) (rules : Rules) (there : List PackageText) : Type 0 where
  pub answer : IsAnswer rules there
  pub as_much : keeps_as_much (request_in rules) (packages_in rules) few there ≡ true
  pub another : keeps_another (request_in rules) (packages_in rules) few there ≡ true

-- of the name of each of these packages that are lost the version sets have the set of all versions
abbrev pub AreOfLost : List PackageText → Rules → Ids → List PackageText → List VersionSetId → Type 0
AreOfLost few rules pool packages sets = (p : PackageText) → Contains packages p →
    is_lost (request_in rules) (packages_in rules) few p ≡ true → HasSet pool sets (name_of (native_in rules) p) Whole

-- the requirement is that a version of the name is there
abbrev pub IsOneOf : Ids → NameText → Requirement → Type 0
IsOneOf pool name (Single v) = IsSet pool v name Whole
IsOneOf pool name (Union u) = ⊥

-- the version sets of a requirement; none if there is no requirement
abbrev pub sets_in : Ids → Option Requirement → List VersionSetId
sets_in pool None = []
sets_in pool (Some requirement) = sets_of (universe_in pool) requirement

module _ (old new : Archive) (one : PackageText) where
  -- if the first ones are demands or limits of the package, the second ones are
  abbrev pub AreDemanded : List ConditionalRequirement → List ConditionalRequirement → Type 0
  AreDemanded requirements more =
      All (IsDemand old.rules old.reached.pool (IsThere old.rules one)) requirements →
      All (IsDemand new.rules new.reached.pool (IsThere new.rules one)) more

  abbrev pub AreLimited : List VersionSetId → List VersionSetId → Type 0
  AreLimited constrains more =
      All (IsLimit old.rules old.reached.pool one) constrains → All (IsLimit new.rules new.reached.pool one) more

  -- so if what was read can be read, and otherwise the package can't be there
  abbrev pub IfReadable : Bool → Type 0 → Type 0
  IfReadable readable Are = MatchBool readable Are (IsNowhere old.rules one)
