use Rattle.std.proofs.Common.{◌≢◌, ℕ, ◌<◌, slice_index_or, []}
use Rattle.report_trees.specs.Forests.{has_edge}
use Rattle.report_trees.specs.Growing.{LeadNotTo, lists}
use Rattle.report_trees.proofs.growing.find.Given as goal

abbrev pub invariant-loop-tree : goal.invariant-loop-tree
invariant-loop-tree g l =
    (tree : ℕ) → tree < l.tree → tree ≢ l.line
    → LeadNotTo (has_edge (lists l.edges)) l.line (slice_index_or (lists l.trees) tree [])
