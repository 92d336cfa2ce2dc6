-- Which versions are written in an index.
use Rattle.std.specs.Prelude.{ℕ, ◌&&◌, Bool, false, List, [], ◌∷◌, Option, None, Some, if◌then◌else◌, codes}
use Rattle.std.specs.BTreeSet.{insert_key}
use Rattle.std.specs.List.{filter_map, flat_map, fold}
use Rattle.std.specs.Str.{bytes_eq}
use Rattle.index_text.specs.Indexes.{NumberedWords, are_too_many}
use Rattle.index_text.specs.Formats.{VersionFormat, Numbers, Semver, version_cmp, semver_of, ends_of}
use Rattle.semver.specs.Parse.{Parts}

abbrev pub both_ends : Option (List ℕ × List ℕ) → List (List ℕ)
both_ends None = []
both_ends (Some (low, high)) = low ∷ high ∷ []

-- what may be a version in a word: the word, and what is before and behind its first `..`
abbrev pub texts_in : List ℕ → List (List ℕ)
texts_in word = word ∷ both_ends (ends_of word)

-- the SemVer versions that these texts say
abbrev pub versions_in : List (List ℕ) → List Parts
versions_in texts = filter_map semver_of texts

-- the SemVer versions of a word
abbrev pub written_in : List ℕ → List Parts
written_in word = versions_in (texts_in word)

-- the SemVer versions of a line's words; none if there are too many, as no line may have them
abbrev pub written_on : Option (List (List ℕ)) → List Parts
written_on None = []
written_on (Some words) = if are_too_many words then [] else flat_map written_in words

-- the SemVer versions of the lines of an index
abbrev pub written : List NumberedWords → List Parts
written lines = flat_map (λ (line : NumberedWords). written_on line.words) lines

-- these versions and others, in ascending order, each once
abbrev pub with_versions : List Parts → List Parts → List Parts
with_versions known versions = fold (insert_key version_cmp) known versions

-- the first words are `request semver`
abbrev pub is_semver_request : Option (List (List ℕ)) → Bool
is_semver_request (Some (keyword ∷ format ∷ words)) =
    bytes_eq keyword (codes "request") && bytes_eq format (codes "semver")
is_semver_request _ = false

-- the first of these lines is so
abbrev pub says_semver : List NumberedWords → Bool
says_semver [] = false
says_semver (line ∷ lines) = is_semver_request line.words

-- how the versions of an index of these lines are written
abbrev pub format_of : List NumberedWords → VersionFormat
format_of lines = if says_semver lines then Semver (with_versions [] (written lines)) else Numbers
