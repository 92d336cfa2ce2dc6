use Rattle.std.proofs.Common.{◌≡◌, drop, map}
use Rattle.index_text.specs.Diagnoses.{earlier_line}
use Rattle.index_text.specs.PlainLines.{plain_line}
use Rattle.index_text.specs.PlainFormats.{plain_format}
use Rattle.index_text.proofs.earlier.earlier_line.Given as goal

-- no line so far is one
abbrev pub invariant-loop-line : goal.invariant-loop-line
invariant-loop-line l =
    earlier_line (plain_format l.format) l.number l.version.name.now l.version.version
    (map plain_line (drop l.line-index l.lines))
    ≡ earlier_line (plain_format l.format) l.number l.version.name.now l.version.version (map plain_line l.lines)
