-- What an unreadable line should have. Its words are followed from place to place, up to one that can't stand there.
use Rattle.std.specs.Prelude.{◌≡◌, ℕ, Bool, false, ◌||◌, nat_le, List, [], ◌∷◌, Option, None, Some, Result, Ok, Err}
use Rattle.std.specs.Prelude.{IfSome, option_and_then, if◌then◌else◌, codes}
use Rattle.std.specs.Option.{ok_or}
use Rattle.std.specs.Str.{bytes_eq}
use Rattle.index_text.specs.Diagnoses.{earlier_line, is_first, line_in}
use Rattle.index_text.specs.Entries.{is_entry}
use Rattle.index_text.specs.Formats.{VersionFormat, Numbers, Semver, number_in, ends_of}
use Rattle.index_text.specs.Indexes.{NumberedWords, are_too_many}
use Rattle.index_text.specs.Lines.{VersionText, behind_format, version_said}
use Rattle.index_text.specs.Written.{format_of}
use Rattle.index_text.specs.declared.diagnosis.Diagnosis.{Diagnosis}
use Rattle.index_text.specs.declared.expected.Expected.{Expected}
use Rattle.index_text.specs.declared.expected.Expected.TheVariants as Is
use Rattle.index_text.specs.declared.place.LineKind.{LineKind}
use Rattle.index_text.specs.declared.place.LineKind.TheVariants.{Request, Version}
use Rattle.index_text.specs.declared.place.Part.{Part}
use Rattle.index_text.specs.declared.place.Part.TheVariants.{Union, Condition, Limits}
use Rattle.index_text.specs.declared.place.Place.{Place}
use Rattle.index_text.specs.declared.place.Place.TheVariants as At
use Rattle.index_text.specs.declared.set.BadRange.{BadRange}
use Rattle.index_text.specs.declared.set.BadRange.TheVariants.{NotARange, Reversed}

-- what may stand at a place: behind `a 1 needs b 1..2`, `|`, `if` or another entry
abbrev pub expected_at : LineKind → Place → Expected
expected_at kind (At.Name part) = Is.Name
expected_at kind (At.Range part) = Is.Range
expected_at Request At.First = Is.Need
expected_at Request At.Entry = Is.Need
expected_at Request At.Union = Is.UnionOrNeed
expected_at Request At.Condition = Is.ConditionOrNeed
expected_at Version At.First = Is.State
expected_at Version At.Entry = Is.Entry
expected_at Version At.Union = Is.UnionOrEntry
expected_at Version At.Condition = Is.ConditionOrEntry

-- behind a word that begins an entry, in the line of a version: `favored` and `locked` have nothing behind them
abbrev pub behind_keyword : List ℕ → Option Place
behind_keyword word =
    if bytes_eq word (codes "limits") then Some (At.Name Limits) else if is_entry word then Some At.Entry else None

-- the same in any line: a request has needs alone
abbrev pub behind_other : LineKind → List ℕ → Option Place
behind_other Request word = None
behind_other Version word = behind_keyword word

abbrev pub behind_entry : LineKind → List ℕ → Option Place
behind_entry kind word = if bytes_eq word (codes "needs") then Some (At.Name Union) else behind_other kind word

-- behind a set of a union: `|`, `if` or an entry
abbrev pub behind_union : LineKind → List ℕ → Option Place
behind_union kind word =
    if bytes_eq word (codes "|") then Some (At.Name Union)
    else if bytes_eq word (codes "if") then Some (At.Name Condition)
    else behind_entry kind word

-- a word between two sets of a condition
abbrev pub is_junction : List ℕ → Bool
is_junction word = bytes_eq word (codes "and") || bytes_eq word (codes "or")

-- behind a set of a condition: `and`, `or` or an entry
abbrev pub behind_condition : LineKind → List ℕ → Option Place
behind_condition kind word = if is_junction word then Some (At.Name Condition) else behind_entry kind word

-- a word that ends a set: there `|` is no name in a union, nor `and` in a condition
abbrev pub is_separator : Part → List ℕ → Bool
is_separator Union word = bytes_eq word (codes "|") || bytes_eq word (codes "if")
is_separator Condition word = bytes_eq word (codes "if") || is_junction word
is_separator Limits word = false

abbrev pub is_keyword : Part → List ℕ → Bool
is_keyword part word = is_entry word || is_separator part word

-- behind the name of a set
abbrev pub behind_name : Part → List ℕ → Option Place
behind_name part word = if is_keyword part word then None else Some (At.Range part)

-- behind a whole set
abbrev pub behind_set : Part → Place
behind_set Union = At.Union
behind_set Condition = At.Condition
behind_set Limits = At.Entry

-- why these are no bounds: 3 and 1 are reversed
abbrev pub bounds_fault : Option ℕ → Option ℕ → Option BadRange
bounds_fault (Some low) (Some high) = if nat_le low high then None else Some Reversed
bounds_fault _ _ = Some NotARange

abbrev pub ends_fault : VersionFormat → Option (List ℕ × List ℕ) → Option BadRange
ends_fault format None = Some NotARange
ends_fault format (Some ends) = bounds_fault (number_in format ends.0) (number_in format ends.1)

-- why a word is no range: `1.3` has no `..`
abbrev pub range_fault : VersionFormat → List ℕ → Option BadRange
range_fault format word = ends_fault format (ends_of word)

-- behind the range of a set, if it is one
abbrev pub behind_range : Part → Option BadRange → Result Place Expected
behind_range part None = Ok (behind_set part)
behind_range part (Some NotARange) = Err Is.Range
behind_range part (Some Reversed) = Err Is.OrderedRange

-- the place behind this word, or what was expected in its stead
abbrev pub place_behind : VersionFormat → LineKind → Place → List ℕ → Result Place Expected
place_behind format kind (At.Range part) word = behind_range part (range_fault format word)
place_behind format kind (At.Name part) word = ok_or (behind_name part word) Is.Name
place_behind format kind At.Union word = ok_or (behind_union kind word) (expected_at kind At.Union)
place_behind format kind At.Condition word = ok_or (behind_condition kind word) (expected_at kind At.Condition)
place_behind format kind At.First word = ok_or (behind_entry kind word) (expected_at kind At.First)
place_behind format kind At.Entry word = ok_or (behind_entry kind word) (expected_at kind At.Entry)

-- what is expected behind a word that can stand there, or in its stead
abbrev pub or_expected : (Place → Expected) → Result Place Expected → Expected
or_expected go (Ok next) = go next
or_expected go (Err expected) = expected

-- what was expected where these words, from a place on, can't go on: in `needs b 1..2 c` an entry, and so on
abbrev pub expected_from : VersionFormat → LineKind → Place → List (List ℕ) → Expected
expected_from format kind place [] = expected_at kind place
expected_from format kind place (word ∷ words) =
    or_expected (λ next. expected_from format kind next words) (place_behind format kind place word)

-- of a request: `request` itself, or what is expected behind it
abbrev pub expected_of_request : VersionFormat → List (List ℕ) → Expected
expected_of_request format [] = Is.RequestFirst
expected_of_request format (keyword ∷ words) =
    if bytes_eq keyword (codes "request") then expected_from format Request At.First (behind_format format words)
    else Is.RequestFirst

abbrev pub behind_version : VersionFormat → List (List ℕ) → Option ℕ → Expected
behind_version format words None = Is.Version
behind_version format words (Some number) = expected_from format Version At.First words

-- of a version: its name, its version, or what is expected behind them
abbrev pub expected_of_version : VersionFormat → List (List ℕ) → Expected
expected_of_version format [] = Is.Name
expected_of_version format (name ∷ []) = Is.Version
expected_of_version format (name ∷ version ∷ words) = behind_version format words (number_in format version)

abbrev pub expected_of : VersionFormat → LineKind → List (List ℕ) → Expected
expected_of format Request words = expected_of_request format words
expected_of format Version words = expected_of_version format words

-- of a line's words: a printed byte, if it has none since a byte isn't printed; its end, if it has too many
abbrev pub expected_in : VersionFormat → LineKind → Option (List (List ℕ)) → Expected
expected_in format kind None = Is.PrintedByte
expected_in format kind (Some words) = if are_too_many words then Is.LineEnd else expected_of format kind words

-- in the format's words: in an index of SemVer versions, a SemVer version
abbrev pub in_semver : Expected → Expected
in_semver Is.Version = Is.SemverVersion
in_semver Is.Range = Is.SemverRange
in_semver expected = expected

abbrev pub in_format : VersionFormat → Expected → Expected
in_format Numbers expected = expected
in_format (Semver known) expected = in_semver expected

-- the line that a version has already
abbrev pub earlier_of : VersionFormat → ℕ → List NumberedWords → Option VersionText → Option NumberedWords
earlier_of format number lines version =
    option_and_then (λ (v : VersionText). earlier_line format number v.name v.version lines) version

abbrev pub unless_earlier : Expected → Option NumberedWords → Expected
unless_earlier expected None = expected
unless_earlier expected (Some line) = Is.DuplicateOf line.number

-- of a version's line: another version, if an earlier line has this one
abbrev pub expected_of_line : VersionFormat → ℕ → List NumberedWords → Option (List (List ℕ)) → Expected
expected_of_line format number lines words =
    unless_earlier (in_format format (expected_in format Version words))
    (earlier_of format number lines (option_and_then (version_said format) words))

-- of the line of this number, which is the request if it is the first
abbrev pub expected_on : VersionFormat → ℕ → List NumberedWords → Option (List (List ℕ)) → Expected
expected_on format number lines words =
    if is_first number lines then in_format format (expected_in format Request words)
    else expected_of_line format number lines words

-- it tells what was expected in the line of this number
abbrev pub IsTold : ℕ → List NumberedWords → Diagnosis → Type 0
IsTold number lines diagnosis = IfSome (line_in number lines)
    (λ line. diagnosis.expected ≡ expected_on (format_of lines) number lines line.words)
