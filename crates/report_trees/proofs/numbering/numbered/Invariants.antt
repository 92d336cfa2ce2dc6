use Rattle.std.proofs.Common.{◌≡◌, ◌+◌, ◌≤◌, ◌++◌, drop}
use Rattle.report_trees.specs.Growing.{lists}
use Rattle.report_trees.specs.TreeTexts.{numbered}
use Rattle.report_trees.proofs.numbering.numbered.Given as goal

abbrev pub invariant-loop-row : goal.invariant-loop-row
invariant-loop-row g l =
    (l.all.items ++ numbered (lists l.edges) l.rows l.next (drop l.row-index l.rows)
    ≡ numbered (lists l.edges) l.rows 1 l.rows) × (l.next ≤ l.row-index + 1)
