-- Version sets without a version, and what is noted of them.
use Rattle.std.specs.Prelude.{ℕ, ◌+◌, ◌-◌, ◌==◌, ◌&&◌, Bool, not, nat_lt, List, [], ◌∷◌, ◌++◌, length, slice_get, codes}
use Rattle.std.specs.Prelude.{option_map, unwrap_or, if◌then◌else◌}
use Rattle.std.specs.Fmt.{decimal}
use Rattle.std.specs.List.{list_any}
use Rattle.std.specs.String.{string_bytes}
use Rattle.index_text.specs.Formats.{version_text}
use Rattle.index_text.specs.PlainFormats.{plain_format}
use Rattle.resolvo_ids.specs.Types.VersionSetId.{VersionSetId}
use Rattle.resolvo_pool.specs.Pool.{Lists}
use Rattle.resolvo_pool.specs.PoolIds.{set_name_in}
use Rattle.example_index.specs.Index.{here, is_within, of_name, range_in, range_text, version_in, versions_of}
use Rattle.example_index.specs.declared.index.SmallIndex.{SmallIndex}
use Rattle.example_index.specs.declared.range.VersionRange.{VersionRange}

-- the candidates of a package
abbrev pub candidates_in : SmallIndex → ℕ → List ℕ
candidates_in index name = of_name index.pool name (here index.pool (versions_of (slice_get index.packages.items name)))

-- one of the versions is within the range
abbrev pub has_within : {N : Type 0} → Lists N VersionRange ℕ → VersionRange → List ℕ → Bool
has_within pool range solvables = list_any (λ s. is_within range (version_in pool s)) solvables

-- no candidate of its package is in the version set
abbrev pub is_empty_set : SmallIndex → VersionSetId → Bool
is_empty_set index v =
    not (has_within index.pool (range_in index.pool v) (candidates_in index (set_name_in index.pool v)))

abbrev pub is_empty_at : SmallIndex → ℕ → Bool
is_empty_at index place = is_empty_set index (record { 0 = place })

-- the package of a version set
abbrev pub package_of : SmallIndex → VersionSetId → ℕ
package_of index set = set_name_in index.pool set

-- no line has this package
abbrev pub is_absent : SmallIndex → ℕ → Bool
is_absent index name = length (versions_of (slice_get index.packages.items name)) == 0

-- its package is absent, and was noted already
abbrev pub is_noted : SmallIndex → List ℕ → VersionSetId → Bool
is_noted index noted set = is_absent index (package_of index set) && list_any (λ n. n == package_of index set) noted

abbrev pub name_text : SmallIndex → ℕ → List ℕ
name_text index name = unwrap_or (option_map string_bytes (slice_get index.pool.names name)) []

-- the version of a solvable, if the pool has it
abbrev pub shown : SmallIndex → ℕ → List ℕ
shown index s =
    if nat_lt s (length index.pool.solvables) then version_text (plain_format index.format) (version_in index.pool s)
    else []

abbrev pub comma_before : ℕ → List ℕ
comma_before place = if place == 0 then [] else codes ", "

-- versions, of which the first has this place: `1, 2, 3` or `1, 2, 3, 4, 5, ..`
abbrev pub versions_from : SmallIndex → ℕ → List ℕ → List ℕ
versions_from index place [] = []
versions_from index place (s ∷ rest) =
    comma_before place ++ (if place == 5 then codes ".." else shown index s ++ versions_from index (place + 1) rest)

-- `no line has the package libssl`
abbrev pub absent_text : List ℕ → List ℕ
absent_text name = codes "no line has the package " ++ (name ++ codes "\n")

-- `openssl 5..6 holds no version; openssl has 1, 2, 3`
abbrev pub empty_text : List ℕ → List ℕ → List ℕ → List ℕ
empty_text name range versions =
    name ++ (codes " " ++ (range ++ (codes " holds no version; "
    ++ (name ++ (codes " has " ++ (versions ++ codes "\n"))))))

-- what is said of a version set without a candidate: that no line has its package, or which versions that has
abbrev pub note_text : SmallIndex → VersionSetId → List ℕ
note_text index set =
    if is_absent index (package_of index set) then absent_text (name_text index (package_of index set))
    else empty_text (name_text index (package_of index set))
    (range_text (plain_format index.format) (range_in index.pool set))
    (versions_from index 0 (versions_of (slice_get index.packages.items (package_of index set))))

-- `and 312 more version sets`
abbrev pub more_text : ℕ → List ℕ
more_text more = codes "and " ++ (decimal more ++ codes " more version sets\n")

-- a line for each of these sets while there is room, but one alone for a package that no line has; behind them how many
-- sets are left
abbrev pub notes_from : SmallIndex → ℕ → List ℕ → List VersionSetId → List ℕ
notes_from index room noted [] = []
notes_from index room noted (set ∷ sets) =
    if room == 0 then more_text (length (set ∷ sets))
    else if is_noted index noted set then notes_from index room noted sets
    else note_text index set ++ notes_from index (room - 1) (noted ++ package_of index set ∷ []) sets
