use Rattle.std.proofs.Common.{◌≡◌, flat_map, take}
use Rattle.report_trees.proofs.growing.joined.Given as goal

abbrev pub invariant-loop-tree : goal.invariant-loop-tree
invariant-loop-tree g l = l.rows.items ≡ flat_map (λ tree. tree.items) (take l.tree-index l.trees)
