-- Directories of packages: the places of those that a name may mean.
use Rattle.std.specs.Prelude.{ℕ, ◌≡◌, ◌==◌, Bool, true, false, List, [], Option, None, Some}
use Rattle.std.specs.Prelude.{length, option_map, position, slice_get, unwrap_or}
use Rattle.std.specs.List.{list_any, slice_split}
use Rattle.std.specs.Str.{bytes_eq}
use Rattle.std.specs.declared.vec.Vec.{Vec}
use Rattle.debian_text.specs.Relations.{RelationText, relation_of}
use Rattle.debian_scenario.specs.Packages.{PackageText}
use Rattle.debian_directory.specs.declared.directory.Directory.{Directory}

abbrev pub has_name : List ℕ → Option RelationText → Bool
has_name name None = false
has_name name (Some said) = bytes_eq name said.name

-- a field `Provides` has this name, in some version
abbrev pub is_provided : List ℕ → List ℕ → Bool
is_provided name field = list_any (λ part. has_name name (relation_of part)) (slice_split (λ b. b == 44) field)

-- the index of a name
abbrev pub index_of : Directory → List ℕ → Option ℕ
index_of directory name = position (λ key. bytes_eq name key.now) directory.names.keys

abbrev pub items_at : {A : Type 0} → List (Vec ℕ A) → ℕ → List ℕ
items_at lists index = unwrap_or (option_map (λ list. list.items) (slice_get lists index)) []

-- the places under a name
abbrev pub places_of : Directory → List ℕ → List ℕ
places_of directory name = unwrap_or (option_map (items_at directory.places.items) (index_of directory name)) []

-- a place is under a name
abbrev pub is_placed : Directory → List ℕ → ℕ → Bool
is_placed directory name place = list_any (λ at. at == place) (places_of directory name)

abbrev pub AreUnderNames : List PackageText → Directory → Type 0
AreUnderNames packages directory =
    (place : ℕ) (p : PackageText) → slice_get packages place ≡ Some p →
    is_placed directory p.identity.name place ≡ true

abbrev pub AreUnderProvided : List PackageText → Directory → Type 0
AreUnderProvided packages directory =
    (place : ℕ) (p : PackageText) → slice_get packages place ≡ Some p →
    (name : List ℕ) → is_provided name p.relations.provides ≡ true → is_placed directory name place ≡ true

-- the package at a place passes the test, and there is one
abbrev pub any_at : (PackageText → Bool) → List PackageText → ℕ → Bool
any_at test packages place = unwrap_or (option_map test (slice_get packages place)) false

-- the package at a place passes the test, if there is one
abbrev pub all_at : (PackageText → Bool) → List PackageText → ℕ → Bool
all_at test packages place = unwrap_or (option_map test (slice_get packages place)) true

-- each package is under its name, and under each name that it provides; there may be more under a name
pub record IsDirectoryOf (packages : List PackageText) (directory : Directory) : Type 0 where
  pub named : AreUnderNames packages directory
  pub provided : AreUnderProvided packages directory

-- there are as many lists of places as names
abbrev pub IsInStep : Directory → Type 0
IsInStep directory = length directory.places.items ≡ length directory.names.keys

-- what is under a name stays there
abbrev pub Keeps : Directory → Directory → Type 0
Keeps old new = (name : List ℕ) (place : ℕ) → is_placed old name place ≡ true → is_placed new name place ≡ true
