-- What a line changes in its package, which gets one version more.
use Rattle.std.specs.Prelude.{◌≡◌, ℕ, false, List, [], ◌∷◌, ◌++◌, Option, None, Some, slice_get}
use Rattle.index_text.specs.Lines.{VersionIs, Excluded}
use Rattle.resolvo_ids.specs.Types.StringId.{StringId}
use Rattle.resolvo_pool.specs.Dependencies.{needs_of}
use Rattle.resolvo_pool.specs.Pool.{Lists}
use Rattle.example_index.specs.Index.{versions_of, favored_of, locked_of, excluded_of}
use Rattle.example_index.specs.Listed.{is_favored, is_locked, is_excluded}
use Rattle.example_index.specs.Mark.{marked, with_reason}
use Rattle.example_index.specs.Meaning.{AreNeeds}
use Rattle.example_index.specs.declared.packages.Entries.{Entries}
use Rattle.example_index.specs.declared.packages.Package.{Package}
use Rattle.example_index.specs.declared.range.VersionRange.{VersionRange}

-- the reason why a version is excluded, if it is
abbrev pub IsReason : List (List ℕ) → Option StringId → VersionIs → Type 0
IsReason strings None is = is_excluded is ≡ false
IsReason strings (Some string) (Excluded reason) = slice_get strings string.0 ≡ Some reason
IsReason strings (Some string) _ = ⊥

-- what a line says of its version, by ids
pub record IsState (pool : Lists (List ℕ) VersionRange ℕ) (found : Entries) (is : VersionIs) : Type 0 where
  pub needs : AreNeeds pool (needs_of found.needs) is
  pub favored : found.favored ≡ is_favored is
  pub locked : found.locked ≡ is_locked is
  pub excluded : IsReason pool.strings found.excluded is

-- a package, once a version is added of which its line says this
pub record IsWith (old new : Option Package) (version : ℕ) (said : Entries) : Type 0 where
  pub versions : versions_of new ≡ versions_of old ++ version ∷ []
  pub favored : favored_of new ≡ marked said.favored version (favored_of old)
  pub locked : locked_of new ≡ marked said.locked version (locked_of old)
  pub excluded : excluded_of new ≡ with_reason (excluded_of old) version said.excluded

-- the same is said of both
pub record IsSame (old new : Option Package) : Type 0 where
  pub versions : versions_of new ≡ versions_of old
  pub favored : favored_of new ≡ favored_of old
  pub locked : locked_of new ≡ locked_of old
  pub excluded : excluded_of new ≡ excluded_of old
