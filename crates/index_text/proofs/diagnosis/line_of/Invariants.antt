use Rattle.std.proofs.Common.{◌≡◌, drop, map}
use Rattle.index_text.specs.Diagnoses.{line_of, line_in}
use Rattle.index_text.specs.PlainLines.{plain_line}
use Rattle.index_text.proofs.diagnosis.line_of.Given as goal

-- no line so far is it
abbrev pub invariant-loop-line : goal.invariant-loop-line
invariant-loop-line l = record {
  is : line_of l.number (drop l.line-index l.lines) ≡ line_of l.number l.lines;
  plain : line_in l.number (map plain_line (drop l.line-index l.lines)) ≡ line_in l.number (map plain_line l.lines);
}
