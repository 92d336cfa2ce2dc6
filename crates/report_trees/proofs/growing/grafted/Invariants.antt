use Rattle.std.proofs.Common.{◌≡◌, ◌+◌, ◌++◌, map, take}
use Rattle.report_trees.specs.Growing.{moved_below}
use Rattle.report_trees.proofs.growing.grafted.Given as goal

abbrev pub invariant-loop-row : goal.invariant-loop-row
invariant-loop-row g l =
    l.rows.items ≡ take (l.fn.place + 1) l.fn.tree ++ map (moved_below l.parent) (take l.row-index l.branch)
