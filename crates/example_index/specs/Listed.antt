-- When an index is the one of a text: each version is a line, and all that is answered of it is what its line says.
use Rattle.std.specs.List.{AllZip}
use Rattle.std.specs.Prelude.{◌≡◌, ℕ, zero, suc, ◌==◌, Bool, true, false, ◌&&◌, List, [], ◌∷◌, ◌++◌, length, map}
use Rattle.std.specs.Prelude.{Option, None, Some, Result, Ok, Err, option_map, slice_get, if◌then◌else◌, ⊤}
use Rattle.std.specs.String.{string_bytes}
use Rattle.std.specs.declared.string.String.{String}
use Rattle.example_index.specs.Index.{versions_of, favored_of, locked_of, excluded_of}
use Rattle.example_index.specs.Meaning.{IsNamed, IsNeed, AreNeeds, needs_in}
use Rattle.example_index.specs.declared.fault.IndexFault.{IndexFault}
use Rattle.example_index.specs.declared.fault.IndexFault.TheVariants.{Unreadable, Refused}
use Rattle.example_index.specs.declared.index.SmallIndex.{SmallIndex}
use Rattle.example_index.specs.declared.packages.Package.{Package}
use Rattle.example_index.specs.declared.range.VersionRange.{VersionRange}
use Rattle.index_text.specs.Entries.{EntryText, Favored, Locked}
use Rattle.index_text.specs.Index.{IndexText}
use Rattle.index_text.specs.Lines.{VersionText, VersionIs, Offered, Excluded}
use Rattle.index_text.specs.Formats.{VersionFormat}
use Rattle.index_text.specs.PlainFormats.{plain_format}
use Rattle.resolvo_ids.specs.Types.StringId.{StringId}
use Rattle.resolvo_pool.specs.Dependencies.{Needs, needs_of}
use Rattle.resolvo_pool.specs.Pool.{Lists}
use Rattle.resolvo_pool.specs.PoolIds.{solvable_name_in}
use Rattle.resolvo_pool.specs.Types.Solvable.{Solvable}

-- the places below this number that are so, the lowest first
abbrev pub places_where : (ℕ → Bool) → ℕ → List ℕ
places_where is_so zero = []
places_where is_so (suc n) = if is_so n then places_where is_so n ++ n ∷ [] else places_where is_so n

-- the highest place below this number that is so
abbrev pub last_where : (ℕ → Bool) → ℕ → Option ℕ
last_where is_so zero = None
last_where is_so (suc n) = if is_so n then Some n else last_where is_so n

-- one of the entries is so
abbrev pub has_favored : List EntryText → Bool
has_favored [] = false
has_favored (Favored ∷ entries) = true
has_favored (_ ∷ entries) = has_favored entries

abbrev pub has_locked : List EntryText → Bool
has_locked [] = false
has_locked (Locked ∷ entries) = true
has_locked (_ ∷ entries) = has_locked entries

abbrev pub is_favored : VersionIs → Bool
is_favored (Offered entries) = has_favored entries
is_favored _ = false

abbrev pub is_locked : VersionIs → Bool
is_locked (Offered entries) = has_locked entries
is_locked _ = false

abbrev pub is_excluded : VersionIs → Bool
is_excluded (Excluded reason) = true
is_excluded _ = false

-- what the line at this place says of its version
abbrev pub state_at : List VersionText → ℕ → Option VersionIs
state_at versions place = option_map (λ (version : VersionText). version.is) (slice_get versions place)

abbrev pub is_state : (VersionIs → Bool) → Option VersionIs → Bool
is_state is_so None = false
is_state is_so (Some is) = is_so is

-- the solvable has this name, and its line is so
abbrev pub is_of_package : {N VS V : Type 0} → Lists N VS V → List VersionText → ℕ → (VersionIs → Bool) → ℕ → Bool
is_of_package pool versions name is_so s = (solvable_name_in pool s == name) && is_state is_so (state_at versions s)

-- a version is excluded, for the reason that its line has
pub record IsExcluded (strings : List (List ℕ)) (versions : List VersionText) (excluded : ℕ × StringId) (place : ℕ)
    : Type 0 where
  pub place_is : excluded.0 ≡ place
  pub reason : List ℕ
  pub line : state_at versions place ≡ Some (Excluded reason)
  pub text : slice_get strings excluded.1.0 ≡ Some reason

-- a pool whose names are their bytes
abbrev pub with_bytes : {A : Type 0} → Lists (String A) VersionRange ℕ → Lists (List ℕ) VersionRange ℕ
with_bytes pool = record {
  strings = pool.strings;
  names = map string_bytes pool.names;
  solvables = pool.solvables;
  version_sets = pool.version_sets;
  unions = pool.unions;
  conditions = pool.conditions;
}

-- a solvable is the version of a line
abbrev pub IsVersion : Lists (List ℕ) VersionRange ℕ → Solvable ℕ → VersionText → Type 0
IsVersion pool solvable version = IsNamed pool solvable.name version.name × (solvable.payload ≡ version.version)

-- what is kept of lines: a pool, the packages at their names' places, and what each version needs, in the lines' order
pub record IsKept (pool : Lists (List ℕ) VersionRange ℕ) (packages : List Package) (needs : List Needs)
    (versions : List VersionText) : Type 0 where
  pub versions_are : AllZip (IsVersion pool) pool.solvables versions
  pub needs_are : AllZip (λ need version. AreNeeds pool need version.is) needs versions
  -- the versions of a package are those of its name, in their order
  pub candidates : (name : ℕ) → versions_of (slice_get packages name)
      ≡ places_where (λ s. solvable_name_in pool s == name) (length versions)
  -- of several that are favored, or locked, the last one counts
  pub favored : (name : ℕ) → favored_of (slice_get packages name)
      ≡ last_where (is_of_package pool versions name is_favored) (length versions)
  pub locked : (name : ℕ) → locked_of (slice_get packages name)
      ≡ last_where (is_of_package pool versions name is_locked) (length versions)
  pub excluded : (name : ℕ) → AllZip (IsExcluded pool.strings versions) (excluded_of (slice_get packages name))
      (places_where (is_of_package pool versions name is_excluded) (length versions))

-- what an index keeps is what these lines say
abbrev pub IsOf : SmallIndex → List VersionText → Type 0
IsOf index versions = IsKept (with_bytes index.pool) index.packages.items (map needs_of index.needs.items) versions

-- what an index has is what lines say whose versions are written so
pub record IsRead (format : VersionFormat) (index : SmallIndex) (said : IndexText) : Type 0 where
  pub format_is : said.format ≡ format
  pub request : AllZip (IsNeed (with_bytes index.pool)) index.request.items (needs_in said.request)
  pub versions : IsOf index said.versions

-- what an index answers is what the lines of a text say
abbrev pub IsIndex : SmallIndex → IndexText → Type 0
IsIndex index said = IsRead (plain_format index.format) index said

-- what was read is so; or the first unreadable line is that of the fault
abbrev pub AreRead : {X T : Type 0} → (X → T → Type 0) → Result X ℕ → Result T IndexFault → Type 0
AreRead IsSo (Ok said) (Ok read) = IsSo said read
AreRead IsSo (Ok said) (Err (Unreadable n)) = ⊥
AreRead IsSo (Err number) (Ok read) = ⊥
AreRead IsSo (Err number) (Err (Unreadable n)) = n ≡ number
AreRead IsSo said (Err (Refused refused)) = ⊤
