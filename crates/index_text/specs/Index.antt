-- What the lines of an index say, and which one is unreadable.
use Rattle.std.specs.Prelude.{ℕ, ◌==◌, ◌&&◌, Bool, List, [], ◌∷◌, ◌++◌, Option, None, Some}
use Rattle.std.specs.Prelude.{Result, Ok, Err, option_and_then, if◌then◌else◌}
use Rattle.std.specs.List.{list_any}
use Rattle.std.specs.Str.{bytes_eq}
use Rattle.index_text.specs.Entries.{EntryText}
use Rattle.index_text.specs.Indexes.{NumberedWords}
use Rattle.index_text.specs.Lines.{VersionText, version_said, request_said}
use Rattle.index_text.specs.Formats.{VersionFormat}
use Rattle.index_text.specs.Written.{format_of}

-- what an index says
pub record IndexText : Type 0 where
  pub format : VersionFormat
  pub request : List EntryText
  pub versions : List VersionText

abbrev pub is_same_version : VersionText → VersionText → Bool
is_same_version a b = bytes_eq a.name b.name && (a.version == b.version)

-- with one version more, unless there is the same one
abbrev pub with_version : List VersionText → VersionText → Option (List VersionText)
with_version versions version =
    if list_any (is_same_version version) versions then None else Some (versions ++ version ∷ [])

-- what is behind this, or the fault of the line of this number
abbrev pub or_fault : {X Y : Type 0} → ℕ → (X → Result Y ℕ) → Option X → Result Y ℕ
or_fault number go None = Err number
or_fault number go (Some x) = go x

-- the versions of these lines behind those; or the number of the first line that is no version, or the same as another
abbrev pub versions_of : VersionFormat → List VersionText → List NumberedWords → Result (List VersionText) ℕ
versions_of format versions [] = Ok versions
versions_of format versions (line ∷ rest) = or_fault line.number (λ more. versions_of format more rest)
    (option_and_then (with_version versions) (option_and_then (version_said format) line.words))

abbrev pub with_request : VersionFormat → List EntryText → Result (List VersionText) ℕ → Result IndexText ℕ
with_request format request (Ok versions) = Ok (record { format = format; request = request; versions = versions })
with_request format request (Err number) = Err number

-- the same, where the versions are written so
abbrev pub index_in_format : VersionFormat → List NumberedWords → Result IndexText ℕ
index_in_format format [] = Err 1
index_in_format format (line ∷ rest) =
    or_fault line.number (λ request. with_request format request (versions_of format [] rest))
    (option_and_then (request_said format) line.words)

-- what the lines of an index say, or the number of the first unreadable one
abbrev pub index_of : List NumberedWords → Result IndexText ℕ
index_of lines = index_in_format (format_of lines) lines
