-- What the ids of a pool stand for, in Debian's words.
use Rattle.std.specs.Prelude.{◌≡◌, ℕ, Contains, List, Some, option_map, slice_get}
use Rattle.debian_directory.specs.Answers.{NameText}
use Rattle.debian_directory.specs.Plain.{plain_name}
use Rattle.resolvo_ids.specs.Types.VersionSetId.{VersionSetId}
use Rattle.debian_provider.specs.Answers.{Ids}
use Rattle.debian_provider.specs.Sets.{SetText, plain_set}
use Rattle.debian_provider.specs.declared.set.Set.{Set}

-- a version set and its name's id, without where bytes lie
abbrev pub plain_entry : ℕ × Set → ℕ × SetText
plain_entry entry = (entry.0, plain_set entry.1)

module _ (pool : Ids) where
  -- the id of this name
  abbrev pub IsNamed : ℕ → NameText → Type 0
  IsNamed id name = option_map plain_name (slice_get pool.names id) ≡ Some name

  -- the version set is this one, of the name of this id
  abbrev pub IsEntry : VersionSetId → ℕ → SetText → Type 0
  IsEntry v id set = option_map plain_entry (slice_get pool.version_sets v.0) ≡ Some (id, set)

  -- the version set is this one, of this name
  pub record IsSet (v : VersionSetId) (name : NameText) (set : SetText) : Type 0 where
    pub id : ℕ
    pub named : IsNamed id name
    pub entry : IsEntry v id set

  -- one of the version sets is
  abbrev pub HasSet : List VersionSetId → NameText → SetText → Type 0
  HasSet sets name set = (v : VersionSetId) × Contains sets v × IsSet v name set
