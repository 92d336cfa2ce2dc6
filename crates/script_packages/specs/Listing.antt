-- What the lines of a catalogue make of the packages.
use Rattle.std.specs.Prelude.{ℕ, Bool, ◌==◌, ◌&&◌, ◌-◌, nat_lt, length, List, [], ◌∷◌, ◌++◌, map}
use Rattle.std.specs.Prelude.{Option, None, Some, is_some, option_map, option_and_then, if◌then◌else◌}
use Rattle.std.specs.List.{list_all}
use Rattle.std.specs.Map.{lookup}
use Rattle.std.specs.Str.{bytes_eq}
use Rattle.std.specs.String.{string_bytes}
use Rattle.typed_ids.specs.declared.version_set_id.VersionSetId.{VersionSetId}
use Rattle.providers.specs.declared.condition.Condition.{Condition}
use Rattle.providers.specs.declared.condition.Condition.TheVariants.{Binary, Requirement}
use Rattle.package_pool.specs.Interned.{interned_place}
use Rattle.package_pool.specs.Pool.{Lists, nothing, with_name, with_solvable}
use Rattle.package_pool.specs.Pool.{with_version_set, with_union, with_condition}
use Rattle.script_packages.specs.declared.packages.Packages.{Packages}
use Rattle.script_packages.specs.declared.packages.Span.{Span}
use Rattle.script_packages.specs.declared.packages.VersionRange.{VersionRange}
use Rattle.script_text.specs.Numbers.{below}
use Rattle.script_packages.specs.Ids.{number_32}
use Rattle.script_packages.specs.Packages.{same_id}
use Rattle.script_packages.specs.Versions.{version_of, favored_place}

-- what is listed: a pool whose names are their bytes, and the solvables of each name that a package line listed
pub record Listing : Type 0 where
  pub pool : Lists (List ℕ) VersionRange ℕ
  pub spans : List (ℕ × Span)

abbrev pub nothing_listed : Listing
nothing_listed = record { pool = nothing; spans = [] }

-- what the packages list
abbrev pub listing_of : Packages → Listing
listing_of p = record {
  pool = record {
    strings = p.pool.strings;
    names = map string_bytes p.pool.names;
    solvables = p.pool.solvables;
    version_sets = p.pool.version_sets;
    unions = p.pool.unions;
    conditions = p.pool.conditions;
  };
  spans = p.spans;
}

abbrev pub same_range : VersionRange → VersionRange → Bool
same_range a b = (a.low == b.low) && (a.high == b.high)

module _ (l : Listing) where
  abbrev pub with_pool : Lists (List ℕ) VersionRange ℕ → Listing
  with_pool pool = record l { pool = pool }

  -- with a name, which may be there already, and the number that it has then
  abbrev pub named : List ℕ → Listing
  named name = with_pool (with_name l.pool bytes_eq name)

  abbrev pub name_number : List ℕ → ℕ
  name_number name = interned_place bytes_eq l.pool.names name

  -- with a version of a package
  abbrev pub with_version : ℕ → ℕ → Listing
  with_version name version = with_pool (with_solvable l.pool (record { name = name; payload = version }))

  -- with a version set of a package, which may be there already
  abbrev pub with_set : ℕ → VersionRange → Listing
  with_set name range = with_pool (with_version_set l.pool same_range name range)

  -- whether a package line listed the name
  abbrev pub has_span : ℕ → Bool
  has_span name = is_some (lookup (same_id name) l.spans)

  -- whether a package line listed the name of this text
  abbrev pub is_listed : List ℕ → Bool
  is_listed name = nat_lt (name_number name) (length l.pool.names) && has_span (name_number name)

  abbrev pub is_made_of_listed : Condition → Bool
  is_made_of_listed (Binary operator left right) =
      nat_lt left (length l.pool.conditions) && nat_lt right (length l.pool.conditions)
  is_made_of_listed (Requirement set) = nat_lt set.0 (length l.pool.version_sets)

-- with the versions of a package that these words write, where each word is one
abbrev pub listed_versions : Listing → ℕ → List (List ℕ) → Option Listing
listed_versions l name [] = Some l
listed_versions l name (word ∷ words) =
    option_and_then (λ version. listed_versions (with_version l name version) name words) (version_of word)

-- with a span, whose first solvable has this number, whose last one is the last of all, and whose favored one is at
-- this place
abbrev pub with_span_from : ℕ → ℕ → Option ℕ → Listing → Listing
with_span_from name first favored l =
    record l {
      spans = l.spans ++
          (name, record { first = first; last = length l.pool.solvables - 1; favored = favored }) ∷ [];
    }

-- with the versions of a name, where it has none yet, and each of the words, of which there are some, is a version, and
-- at most one has a star
abbrev pub with_versions : Listing → ℕ → List (List ℕ) → Option Listing
with_versions l name [] = None
with_versions l name (word ∷ words) =
    if has_span l name then None
    else option_and_then (λ favored. option_map (with_span_from name (length l.pool.solvables) favored)
    (listed_versions l name (word ∷ words))) (favored_place (word ∷ words))

-- the version sets with those of these words after them, where each word is one of `count`
abbrev pub listed_sets : ℕ → List VersionSetId → List (List ℕ) → Option (List VersionSetId)
listed_sets count sets [] = Some sets
listed_sets count sets (word ∷ words) =
    option_and_then (λ v. listed_sets count (sets ++ record { 0 = v } ∷ []) words) (below count (number_32 word))

-- whether each word is a version set, of `count`
abbrev pub are_sets : ℕ → List (List ℕ) → Bool
are_sets count words = list_all (λ word. is_some (below count (number_32 word))) words

-- with a union of these version sets, where there are some
abbrev pub with_some_union : Listing → Option (List VersionSetId) → Option Listing
with_some_union l None = None
with_some_union l (Some []) = None
with_some_union l (Some (set ∷ sets)) = Some (with_pool l (with_union l.pool (set ∷ sets)))

-- with a condition that is made of what is listed; it may be there already
abbrev pub with_listed_condition : Listing → Condition → Option Listing
with_listed_condition l c = if is_made_of_listed l c then Some (with_pool l (with_condition l.pool c)) else None
