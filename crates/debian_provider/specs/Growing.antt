-- How an archive grows.
use Rattle.std.specs.Prelude.{◌≡◌, ℕ, true, ◌+◌, ◌<◌, ◌≤◌, All, Any, List, Some, length, map, slice_get}
use Rattle.std.specs.List.{AllZip}
use Rattle.debian_scenario.specs.Packages.{PackageText}
use Rattle.debian_scenario.specs.Plain.{plain_package, plain_request}
use Rattle.debian_scenario.specs.Requests.{RequestText}
use Rattle.debian_directory.specs.Answers.{NameText, may_be_picked, name_of}
use Rattle.debian_directory.specs.declared.rules.Rules.{Rules}
use Rattle.resolvo_ids.specs.Types.VersionSetId.{VersionSetId}
use Rattle.resolvo_pool.specs.Pool.{AreSetsHere, IsExtended, IsLater}
use Rattle.resolvo_pool.specs.PoolIds.{solvable_name_in}
use Rattle.debian_provider.specs.Answers.{Ids, place_in, versions_at}
use Rattle.debian_provider.specs.Meaning.{IsNamed}
use Rattle.debian_provider.specs.declared.archive.Archive.{Archive}
use Rattle.debian_provider.specs.declared.reached.Reached.{Reached}

module _ (rules : Rules) where
  abbrev pub native_in : List ℕ
  native_in = rules.request.now.architecture.now

  abbrev pub packages_in : List PackageText
  packages_in = map plain_package rules.packages.now

  abbrev pub request_in : RequestText
  request_in = plain_request rules.request.now

  -- the places of the packages of this name that may be picked
  pub record IsPlaceOf (name : NameText) (place : ℕ) : Type 0 where
    pub one : PackageText
    pub at : slice_get packages_in place ≡ Some one
    pub named : name_of native_in one ≡ name
    pub pickable : may_be_picked request_in packages_in one ≡ true

  module _ (pool : Ids) where
    -- the solvable is a version of this name, the package at a place
    pub record IsVersion (name : ℕ) (solvable : ℕ) : Type 0 where
      pub is_of : solvable_name_in pool solvable ≡ name
      pub place : ℕ
      pub at : place_in pool solvable ≡ Some place
      pub one : PackageText
      pub is : slice_get packages_in place ≡ Some one
      pub named : IsNamed pool name (name_of native_in one)

    -- one of the solvables is the package at each place of this name
    abbrev pub HasVersions : NameText → List ℕ → Type 0
    HasVersions name solvables = (place : ℕ) → IsPlaceOf name place → Any (λ s. place_in pool s ≡ Some place) solvables

  -- each name that was reached has all its versions
  pub record AreNamed (reached : Reached) : Type 0 where
    pub in_step : length reached.versions.items ≡ length reached.pool.names
    pub all : (id : ℕ) (name : NameText) → IsNamed reached.pool id name →
        HasVersions reached.pool name (versions_at reached.versions.items id)
    pub each : (id : ℕ) → id < length reached.versions.items →
        All (IsVersion reached.pool id) (versions_at reached.versions.items id)

-- the solvable is the package at a place, as a version of this name
abbrev pub IsAt : Ids → ℕ → ℕ → ℕ → Type 0
IsAt pool name solvable place = slice_get pool.solvables solvable ≡ Some (record { name = name; payload = place })

-- a name came in: its id is the next one, its versions are the packages at these places, and those of others stay
pub record IsNameAdded (old new : Reached) (places : List ℕ) (id : ℕ) : Type 0 where
  pub is : id ≡ length old.versions.items
  pub names : length new.pool.names ≤ length old.pool.names + 1
  pub one_more : length new.versions.items ≡ length old.versions.items + 1
  pub at : AllZip (IsAt new.pool id) (versions_at new.versions.items id) places
  pub others : (n : ℕ) → n < length old.versions.items →
      versions_at new.versions.items n ≡ versions_at old.versions.items n

-- with more version sets and texts, and the same names
pub record HasMoreSets (old new : Reached) : Type 0 where
  pub later : IsLater old.pool new.pool
  pub names : new.pool.names ≡ old.pool.names
  pub versions : new.versions ≡ old.versions

-- of the same scenario, with more in its pool; what is requested, and what was read, is the same
pub record IsGrown (old new : Archive) : Type 0 where
  pub rules : new.rules ≡ old.rules
  pub needs : new.needs ≡ old.needs
  pub requirements : new.requirements ≡ old.requirements
  pub later : IsLater old.reached.pool new.reached.pool
  pub named : AreNamed old.rules old.reached → AreNamed old.rules new.reached

-- and with more version sets behind these
pub record IsAdded (old new : Archive) (sets more : List VersionSetId) : Type 0 where
  pub grown : IsGrown old new
  pub kept : IsExtended sets more
  pub here : AreSetsHere old.reached.pool sets → AreSetsHere new.reached.pool more
