-- What a small index answers.
use Rattle.std.specs.Prelude.{◌≡◌, ℕ, ◌++◌, ◌==◌, Bool, true, ◌&&◌, All, nat_le, nat_lt, List, [], Option, None, Some}
use Rattle.std.specs.Prelude.{length, slice_get, unwrap_or, option_map, filter, codes}
use Rattle.std.proofs.lemmas.List.Elements.{All-filter, filter_passes}
use Rattle.index_text.specs.Formats.{VersionFormat, version_text}
use Rattle.resolvo_ids.specs.Types.StringId.{StringId}
use Rattle.resolvo_ids.specs.Types.VersionSetId.{VersionSetId}
use Rattle.resolvo_pool.specs.Dependencies.{Needs, Known, needs_of}
use Rattle.resolvo_pool.specs.Pool.{Lists}
use Rattle.resolvo_pool.specs.PoolIds.{solvable_name_in}
use Rattle.resolvo_pool.specs.Types.Dependencies.{Dependencies}
use Rattle.resolvo_pool.specs.Types.Solvable.{Solvable}
use Rattle.example_index.specs.declared.packages.Package.{Package}
use Rattle.example_index.specs.declared.range.VersionRange.{VersionRange}

-- as 1..3
abbrev pub range_text : VersionFormat → VersionRange → List ℕ
range_text format range = version_text format range.low ++ (codes ".." ++ version_text format range.high)

abbrev pub is_within : VersionRange → ℕ → Bool
is_within range version = nat_le range.low version && nat_lt version range.high

module _ {N : Type 0} (pool : Lists N VersionRange ℕ) where
  -- the version of a solvable
  abbrev pub version_in : ℕ → ℕ
  version_in s = unwrap_or (option_map (λ (x : Solvable ℕ). x.payload) (slice_get pool.solvables s)) 0

  -- the range of a version set
  abbrev pub range_in : VersionSetId → VersionRange
  range_in v =
      unwrap_or (option_map (λ (x : ℕ × VersionRange). x.1) (slice_get pool.version_sets v.0))
      (record { low = 0; high = 0 })

  -- of these solvables, those that the pool has
  abbrev pub here : List ℕ → List ℕ
  here solvables = filter (λ s. nat_lt s (length pool.solvables)) solvables

  -- of these solvables, those of a package
  abbrev pub of_name : ℕ → List ℕ → List ℕ
  of_name name solvables = filter (λ s. solvable_name_in pool s == name) solvables

  -- the pool has those that are queried
  pub named_known : (name : ℕ) (solvables : List ℕ) →
      All (λ s. nat_lt s (length pool.solvables) ≡ true) (of_name name (here solvables))
  named_known name solvables = All-filter _ (λ s. nat_lt s (length pool.solvables) ≡ true) _ (filter_passes _ solvables)

-- what is answered of a package; nothing if there is none
abbrev pub versions_of : Option Package → List ℕ
versions_of None = []
versions_of (Some p) = p.versions.items

abbrev pub favored_of : Option Package → Option ℕ
favored_of None = None
favored_of (Some p) = p.favored

abbrev pub locked_of : Option Package → Option ℕ
locked_of None = None
locked_of (Some p) = p.locked

abbrev pub excluded_of : Option Package → List (ℕ × StringId)
excluded_of None = []
excluded_of (Some p) = p.excluded.items

-- what the solvable at this place of the list needs; nothing if there is none
abbrev pub needs_at : {A : Type 0} → List (Dependencies A) → ℕ → Needs
needs_at list place = unwrap_or (option_map needs_of (slice_get list place)) (Known [] [])
