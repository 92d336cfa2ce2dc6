-- How the versions of an index are written, and the number that stands for each.
use Rattle.std.specs.Prelude.{ℕ, ◌^◌, nat_eq, Bool, List, [], ◌∷◌, drop, slice_get, Option, None, Some}
use Rattle.std.specs.Prelude.{option_map, option_and_then, if◌then◌else◌, codes}
use Rattle.std.specs.Fmt.{decimal}
use Rattle.std.specs.List.{position, starts_with}
use Rattle.std.specs.Ordering.{nat_cmp, on, then_cmp, eq_by_cmp}
use Rattle.std.specs.Result.{result_ok}
use Rattle.std.specs.declared.cmp.Ordering.{Ordering}
use Rattle.script_text.specs.Numbers.{number_of, below}
use Rattle.semver.specs.Identifiers.{parts_text}
use Rattle.semver.specs.Order.{pre_cmp, build_cmp}
use Rattle.semver.specs.Parse.{Parts, version_parts}

-- versions are numbers, or they are SemVer versions: these are written in the index, in ascending order, each once
pub data VersionFormat : Type 0 where
  Numbers : VersionFormat
  Semver : (known : List Parts) → VersionFormat

-- the order of SemVer versions: by their numbers, then by their pre-releases, and last by their build metadata
unfoldable pub version_cmp : Parts → Parts → Ordering
version_cmp = then_cmp (on (λ p. p.0) nat_cmp) (then_cmp (on (λ p. p.1) nat_cmp) (then_cmp (on (λ p. p.2) nat_cmp)
    (then_cmp (on (λ p. p.3) pre_cmp) (on (λ p. p.4) build_cmp))))

-- the SemVer version that a word says
unfoldable pub semver_of : List ℕ → Option Parts
semver_of word = result_ok (version_parts word)

-- the place of a version among those that are known
abbrev pub place_of : List Parts → Parts → Option ℕ
place_of known version = position (eq_by_cmp version_cmp version) known

-- the number of the version that a word says, if it is below 2^32
abbrev pub number_in : VersionFormat → List ℕ → Option ℕ
number_in Numbers word = below (2 ^ 32) (number_of word)
number_in (Semver known) word = below (2 ^ 32) (option_and_then (place_of known) (semver_of word))

-- the text of a version; none if there is none
abbrev pub text_of_parts : Option Parts → List ℕ
text_of_parts None = []
text_of_parts (Some version) = parts_text version

-- the text of the version of this number
abbrev pub version_text : VersionFormat → ℕ → List ℕ
version_text Numbers number = decimal number
version_text (Semver known) number = text_of_parts (slice_get known number)

abbrev pub begins_with_dots : List ℕ → Bool
begins_with_dots text = starts_with nat_eq text (codes "..")

-- what is before the first `..` of a word, and what is behind it
abbrev pub ends_of : List ℕ → Option (List ℕ × List ℕ)
ends_of [] = None
ends_of (byte ∷ rest) = if begins_with_dots (byte ∷ rest) then Some ([], drop 2 (byte ∷ rest))
    else option_map (λ ends. (byte ∷ ends.0, ends.1)) (ends_of rest)
