-- Which lines have a diagnosis, and where it is.
use Rattle.std.specs.Prelude.{ℕ, ◌+◌, ◌≤◌, ◌==◌, ◌&&◌, Bool, true, false, not, nat_le, nat_lt, List, [], ◌∷◌, length}
use Rattle.std.specs.Prelude.{◌≡◌, Option, None, Some, IfSome, is_some, option_and_then, if◌then◌else◌}
use Rattle.std.specs.List.{find, list_all, prefix_len}
use Rattle.std.specs.Str.{bytes_eq}
use Rattle.index_text.specs.Indexes.{NumberedWords}
use Rattle.index_text.specs.Lines.{VersionText, request_said, version_said}
use Rattle.index_text.specs.Formats.{VersionFormat, number_in}
use Rattle.index_text.specs.Printed.{first_line}
use Rattle.index_text.specs.Written.{format_of}
use Rattle.index_text.specs.declared.diagnosis.Diagnosis.{Diagnosis}
use Rattle.index_text.specs.declared.line.Line.{Line}
use Rattle.script_text.specs.Lines.{is_printed}

-- the column of a byte of the line, or the one behind its end; if a byte isn't printed, that of the first such byte
pub record IsPlace (line : List ℕ) (diagnosis : Diagnosis) : Type 0 where
  pub from : 1 ≤ diagnosis.column
  pub to : diagnosis.column ≤ length line + 1
  pub unprinted : list_all is_printed line ≡ false → diagnosis.column ≡ prefix_len is_printed line + 1

-- the first line of this number
abbrev pub line_of : ℕ → List Line → Option Line
line_of number lines = find (λ (line : Line). line.number == number) lines

abbrev pub line_in : ℕ → List NumberedWords → Option NumberedWords
line_in number lines = find (λ (line : NumberedWords). line.number == number) lines

-- a place in this line
abbrev pub IsPlaceIn : Option Line → Diagnosis → Type 0
IsPlaceIn line diagnosis = IfSome line (λ found. IsPlace (first_line found.text.now) diagnosis)

abbrev pub is_number : ℕ → Option ℕ → Bool
is_number number None = false
is_number number (Some n) = n == number

-- the line of this version, whatever else it says
abbrev pub names_version : VersionFormat → List ℕ → ℕ → Option (List (List ℕ)) → Bool
names_version format name version (Some (n ∷ v ∷ rest)) = bytes_eq n name && is_number version (number_in format v)
names_version format name version _ = false

-- the first line of this version before the line of this number
abbrev pub earlier_line : VersionFormat → ℕ → List ℕ → ℕ → List NumberedWords → Option NumberedWords
earlier_line format number name version lines =
    find (λ (line : NumberedWords). nat_lt line.number number && names_version format name version line.words) lines

-- no line is before the line of this number
abbrev pub is_first : ℕ → List NumberedWords → Bool
is_first number [] = true
is_first number (line ∷ rest) = nat_le number line.number

-- a version that none of these lines has before the line of this number
abbrev pub is_new : VersionFormat → ℕ → List NumberedWords → Option VersionText → Bool
is_new format number lines None = false
is_new format number lines (Some version) =
    not (is_some (earlier_line format number version.name version.version lines))

-- this is the line of this number, and it can be read: as the request, or as a version that has no line before
abbrev pub is_readable_in : VersionFormat → ℕ → List NumberedWords → Option NumberedWords → Bool
is_readable_in format number lines None = true
is_readable_in format number lines (Some line) =
    if is_first number lines then is_some (option_and_then (request_said format) line.words)
    else is_new format number lines (option_and_then (version_said format) line.words)

-- the line of this number can be read, where the versions are written as these lines say; or there is no such line
abbrev pub is_readable : ℕ → List NumberedWords → Bool
is_readable number lines = is_readable_in (format_of lines) number lines (line_in number lines)
