use Rattle.std.proofs.Common.{◌≡◌, length}
use Rattle.report_trees.specs.Forests.{has_edge}
use Rattle.report_trees.specs.Growing.{IsGrowing, lists}
use Rattle.report_trees.proofs.growing.grown.Given as goal

abbrev pub invariant-loop-line : goal.invariant-loop-line
invariant-loop-line g l =
    (length l.trees.items ≡ length l.edges) × IsGrowing (has_edge (lists l.edges)) l.line (lists l.trees.items)
