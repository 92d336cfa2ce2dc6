-- What a line of an index says: a request, or a version.
use Rattle.std.specs.Prelude.{ℕ, Bool, true, false, List, [], ◌∷◌, Option, None, Some}
use Rattle.std.specs.Prelude.{option_map, option_and_then, if◌then◌else◌, codes, drop}
use Rattle.std.specs.List.{list_all, join_by}
use Rattle.std.specs.Str.{bytes_eq}
use Rattle.index_text.specs.Entries.{EntryText, Needs, entries_of}
use Rattle.index_text.specs.Formats.{VersionFormat, Numbers, Semver, number_in}
use Rattle.index_text.specs.Indexes.{are_too_many}

-- what is said of a version: what it needs and limits, or why it may not be picked, or why nobody knows what it needs
pub data VersionIs : Type 0 where
  Offered : (entries : List EntryText) → VersionIs
  Excluded : (reason : List ℕ) → VersionIs
  Unknown : (reason : List ℕ) → VersionIs

pub record VersionText : Type 0 where
  pub name : List ℕ
  pub version : ℕ
  pub is : VersionIs

-- words with a blank between each and the next
abbrev pub joined : List (List ℕ) → List ℕ
joined words = join_by (λ word. word) (codes " ") words

-- what is behind a name and a version
abbrev pub is_of : VersionFormat → List (List ℕ) → Option VersionIs
is_of format [] = Some (Offered [])
is_of format (keyword ∷ words) =
    if bytes_eq keyword (codes "excluded") then Some (Excluded (joined words))
    else if bytes_eq keyword (codes "unknown") then Some (Unknown (joined words))
    else option_map Offered (entries_of format (keyword ∷ words))

-- VERSION, and what is said of it
abbrev pub version_named : VersionFormat → List ℕ → List (List ℕ) → Option VersionText
version_named format name (version ∷ words) =
    option_and_then (λ v. option_map (λ is. record { name = name; version = v; is = is }) (is_of format words))
    (number_in format version)
version_named format name [] = None

-- NAME VERSION, and what is said of it; no name is `request`
abbrev pub version_in : VersionFormat → List (List ℕ) → Option VersionText
version_in format (name ∷ words) =
    if bytes_eq name (codes "request") then None else version_named format name words
version_in format [] = None

-- the same, of a line that hasn't too many words
abbrev pub version_said : VersionFormat → List (List ℕ) → Option VersionText
version_said format words = if are_too_many words then None else version_in format words

abbrev pub is_need : EntryText → Bool
is_need (Needs need) = true
is_need _ = false

-- entries, if all are needs
abbrev pub all_needs : List EntryText → Option (List EntryText)
all_needs entries = if list_all is_need entries then Some entries else None

-- what is behind `request`, and behind `semver` if the versions are written so
abbrev pub behind_format : VersionFormat → List (List ℕ) → List (List ℕ)
behind_format Numbers words = words
behind_format (Semver known) words = drop 1 words

-- request, and what is needed
abbrev pub request_in : VersionFormat → List (List ℕ) → Option (List EntryText)
request_in format [] = None
request_in format (keyword ∷ words) =
    if bytes_eq keyword (codes "request")
    then option_and_then all_needs (entries_of format (behind_format format words))
    else None

-- the same, of a line that hasn't too many words
abbrev pub request_said : VersionFormat → List (List ℕ) → Option (List EntryText)
request_said format words = if are_too_many words then None else request_in format words
