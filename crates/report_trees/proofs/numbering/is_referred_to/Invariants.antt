use Rattle.std.proofs.Common.{◌≡◌, drop}
use Rattle.report_trees.specs.Growing.{lists}
use Rattle.report_trees.specs.TreeTexts.{is_referred_to}
use Rattle.report_trees.proofs.numbering.is_referred_to.Given as goal

abbrev pub invariant-loop-from : goal.invariant-loop-from
invariant-loop-from g l =
    is_referred_to (lists l.edges) (drop l.from-index l.rows) l.to ≡ is_referred_to (lists l.edges) l.rows l.to
