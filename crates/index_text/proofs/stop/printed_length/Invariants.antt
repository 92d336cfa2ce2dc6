use Rattle.std.proofs.Common.{◌≡◌, ◌+◌, drop}
use Rattle.std.specs.List.{prefix_len}
use Rattle.script_text.specs.Lines.{is_printed}
use Rattle.index_text.proofs.stop.printed_length.Given as goal

abbrev pub invariant-loop-i : goal.invariant-loop-i
invariant-loop-i l = l.i + prefix_len is_printed (drop l.i l.line) ≡ prefix_len is_printed l.line
