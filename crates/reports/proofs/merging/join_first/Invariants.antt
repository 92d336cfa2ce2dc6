use Rattle.std.proofs.Common.{◌≡◌}
use Rattle.reports.proofs.merging.join_first.Given as goal

abbrev pub invariant-loop-place : goal.invariant-loop-place
invariant-loop-place g l = l.lines ≡ l.fn.lines
