-- What an archive answers.
use Rattle.std.specs.Prelude.{◌≡◌, ℕ, Bool, true, false, nat_lt, List, [], length, slice_get, All}
use Rattle.std.specs.Prelude.{Option, None, Some, option_and_then, option_map, unwrap_or}
use Rattle.std.specs.Str.Lossy.{utf8_lossy}
use Rattle.std.specs.declared.vec.Vec.{Vec}
use Rattle.debian_scenario.specs.Plain.{plain_package}
use Rattle.debian_scenario.specs.declared.package.Package.{Package}
use Rattle.debian_directory.specs.declared.name.Name.{Name}
use Rattle.resolvo_ids.specs.Types.StringId.{StringId}
use Rattle.resolvo_ids.specs.Types.VersionSetId.{VersionSetId}
use Rattle.resolvo_pool.specs.Dependencies.{Needs, Unknown, needs_of}
use Rattle.resolvo_pool.specs.Pool.{AreSetsHere, Lists}
use Rattle.resolvo_pool.specs.PoolIds.{set_name_in}
use Rattle.resolvo_pool.specs.Texts.{Texts}
use Rattle.resolvo_pool.specs.Types.Dependencies.{Dependencies}
use Rattle.resolvo_pool.specs.Types.Solvable.{Solvable}
use Rattle.debian_provider.specs.Sets.{has, plain_set}
use Rattle.debian_provider.specs.Texts.{package_text, set_text}
use Rattle.debian_provider.specs.declared.set.Set.{Set}

abbrev pub Ids : Type 0
Ids = Lists Name Set ℕ

-- the versions of the name of this place; none if there is no such name
abbrev pub versions_at : {A : Type 0} → List (Vec ℕ A) → ℕ → List ℕ
versions_at versions name = unwrap_or (option_map (λ v. v.items) (slice_get versions name)) []

-- these solvables are in the pool
abbrev pub AreHere : Ids → List ℕ → Type 0
AreHere pool solvables = All (λ s. nat_lt s (length pool.solvables) ≡ true) solvables

-- the versions of each name are
abbrev pub AreKnown : {A : Type 0} → Ids → List (Vec ℕ A) → Type 0
AreKnown pool versions = (name : ℕ) → AreHere pool (versions_at versions name)

-- where the first sets are in the first pool, the second ones are in the second pool
abbrev pub AreKept : Ids → Ids → List VersionSetId → List VersionSetId → Type 0
AreKept pool after sets more = AreSetsHere pool sets → AreSetsHere after more

-- the version of a name to try first
abbrev pub favored_at : List (Option ℕ) → ℕ → Option ℕ
favored_at favored name = option_and_then (λ solvable. solvable) (slice_get favored name)

-- what a solvable needs; it can't be told where nothing was read
abbrev pub needs_at : {A : Type 0} → StringId → List (Dependencies A) → ℕ → Needs
needs_at unread needs solvable = unwrap_or (option_map needs_of (slice_get needs solvable)) (Unknown unread)

module _ (pool : Ids) where
  -- the place of a solvable's package
  abbrev pub place_in : ℕ → Option ℕ
  place_in s = option_map (λ (x : Solvable ℕ). x.payload) (slice_get pool.solvables s)

  abbrev pub set_in : VersionSetId → Option Set
  set_in v = option_map (λ (x : ℕ × Set). x.1) (slice_get pool.version_sets v.0)

  abbrev pub name_text : ℕ → List ℕ
  name_text n = unwrap_or (option_map (λ (name : Name). name.name.now) (slice_get pool.names n)) []

  -- the package of a solvable
  abbrev pub package_in : List Package → ℕ → Option Package
  package_in packages s = option_and_then (slice_get packages) (place_in s)

abbrev pub set_has : List ℕ → Option Set → Option Package → Bool
set_has native None p = false
set_has native (Some set) None = false
set_has native (Some set) (Some p) = has native (plain_set set) (plain_package p)

-- whether a version set has a solvable's package
abbrev pub matches_in : List ℕ → Ids → List Package → VersionSetId → ℕ → Bool
matches_in native pool packages v s = set_has native (set_in pool v) (package_in pool packages s)

abbrev pub set_text_of : List ℕ → Option Set → List ℕ
set_text_of name None = []
set_text_of name (Some set) = utf8_lossy (set_text name (plain_set set))

abbrev pub texts_in : Ids → List Package → Texts ℕ ℕ
texts_in pool packages = record {
  solvable = λ s. package_text (package_in pool packages s);
  name = λ n. utf8_lossy (name_text pool n);
  version_set = λ v. set_text_of (name_text pool (set_name_in pool v)) (set_in pool v);
  string = λ t. unwrap_or (slice_get pool.strings t.0) [];
}
