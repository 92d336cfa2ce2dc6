use Rattle.std.proofs.Common.{◌≡◌, ◌+◌, drop}
use Rattle.std.specs.List.{prefix_len}
use Rattle.script_text.specs.Lines.{is_printed}
use Rattle.script_text.proofs.printed.printed_by_one.Given as goal

abbrev pub invariant-loop-i : goal.invariant-loop-i
invariant-loop-i l = l.i + prefix_len is_printed (drop l.i l.text) ≡ prefix_len is_printed l.text
