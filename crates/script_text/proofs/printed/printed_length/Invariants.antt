use Rattle.std.proofs.Common.{◌≡◌, ◌≤◌, ◌-◌, ◌+◌, length, drop}
use Rattle.std.specs.List.{prefix_len}
use Rattle.script_text.specs.Lines.{is_printed}
use Rattle.script_text.proofs.printed.printed_length.Given as goal

abbrev pub invariant-loop-length : goal.invariant-loop-length
invariant-loop-length l = record {
  within : l.length ≤ length l.text;
  counted : l.length + prefix_len is_printed (drop l.length l.text) ≡ prefix_len is_printed l.text;
}

abbrev pub decreases-loop-length : goal.decreases-loop-length
decreases-loop-length l = length l.text - l.length
