use Rattle.std.proofs.Common.{◌≡◌, take, drop}
use Rattle.script_text.specs.Lines.{lines, lines_from}
use Rattle.index_text.proofs.raw.raw_line.Given as goal

abbrev pub invariant-loop-i : goal.invariant-loop-i
invariant-loop-i l = lines_from (take l.i l.text) (drop l.i l.text) ≡ lines l.text
