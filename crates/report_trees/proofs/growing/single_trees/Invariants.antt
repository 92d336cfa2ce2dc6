use Rattle.std.proofs.Common.{◌≡◌}
use Rattle.report_trees.specs.Growing.{lists, single_trees}
use Rattle.report_trees.proofs.growing.single_trees.Given as goal

abbrev pub invariant-loop-line : goal.invariant-loop-line
invariant-loop-line g l = lists l.trees.items ≡ single_trees l.line
