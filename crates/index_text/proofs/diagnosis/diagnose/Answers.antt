use Rattle.std.proofs.Common.{◌≡◌, ◌∙◌, ℕ, Bool, true, List, Some, sym, ap, subst, map}
use Rattle.std.specs.Prelude.{not, is_some, IfOk, option_and_then, if◌then◌else◌}
use Rattle.index_text.specs.Diagnoses.{is_first, is_new, is_readable, is_readable_in, line_in}
use Rattle.index_text.specs.Formats.{VersionFormat}
use Rattle.index_text.specs.Indexes.{NumberedWords}
use Rattle.index_text.specs.Lines.{request_said, version_said}
use Rattle.index_text.specs.PlainFormats.{plain_format}
use Rattle.index_text.specs.PlainLines.{plain_line}
use Rattle.index_text.specs.Written.{format_of}
use Rattle.index_text.proofs.diagnosis.diagnose.Goals as goal

-- the first line is read as a request
first_readable : (format : VersionFormat) (number : ℕ) (lines : List NumberedWords) (line : NumberedWords)
    → is_first number lines ≡ true → line_in number lines ≡ Some line → format ≡ format_of lines
    → is_some (option_and_then (request_said format) line.words) ≡ is_readable number lines
first_readable format number lines line first found written =
    ap (λ f. is_some (option_and_then (request_said f) line.words)) written
    ∙ sym (ap (λ b. if b then is_some (option_and_then (request_said (format_of lines)) line.words)
    else is_new (format_of lines) number lines (option_and_then (version_said (format_of lines)) line.words)) first)
    ∙ sym (ap (is_readable_in (format_of lines) number lines) found)

pub returns-then-is_first-clause-none : goal.returns-then-is_first-clause-none
returns-then-is_first-clause-none c =
    subst (λ (b : Bool). IfOk c.request_fault.result (λ fault. not (is_some fault) ≡ b))
    (first_readable (plain_format c.in_ok-reader.reader.format) c.args.number (map plain_line c.args.lines.now)
    (plain_line c.in-Some.line.now) (sym c.is_first.ensures ∙ c.if-is_first.true) (sym c.in-Some.ensures.plain)
    c.in_ok-reader.ensures)
    c.request_fault.ensures.none
