-- What the words of a package line say: versions, of which one may have a star directly behind it.
use Rattle.std.specs.Prelude.{ℕ, ◌-◌, Bool, ◌&&◌, nat_lt, List, length, take, drop}
use Rattle.std.specs.Prelude.{filter, Option, None, Some, is_some, if◌then◌else◌, codes}
use Rattle.std.specs.List.{list_all, position_from}
use Rattle.std.specs.Str.{bytes_eq}
use Rattle.script_packages.specs.Ids.{number_32}

-- whether a word ends with a star
abbrev pub is_starred : List ℕ → Bool
is_starred word = bytes_eq (drop (length word - 1) word) (codes "*")

-- the version that a word stands for, with a star behind it or without
abbrev pub version_of : List ℕ → Option ℕ
version_of word = if is_starred word then number_32 (take (length word - 1) word) else number_32 word

-- the place of the word with a star, if there is one; where there are two, none is told
abbrev pub favored_place : List (List ℕ) → Option (Option ℕ)
favored_place words =
    if nat_lt 1 (length (filter is_starred words)) then None else Some (position_from is_starred 0 words)

-- whether each word is a version
abbrev pub each_is_version : List (List ℕ) → Bool
each_is_version words = list_all (λ word. is_some (version_of word)) words

-- whether each word is a version, and at most one has a star
abbrev pub are_versions : List (List ℕ) → Bool
are_versions words = is_some (favored_place words) && each_is_version words
