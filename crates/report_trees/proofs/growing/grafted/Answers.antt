use Rattle.report_trees.proofs.RowLemmas.{grafted_from}
use Rattle.report_trees.proofs.growing.grafted.Goals as goal

pub returns : goal.returns
returns g c =
    grafted_from c.args.tree.now c.args.place _ c.args.branch.now c.loop-row.row-index c.loop-row.rows.items
    c.split_at.result.1.now _ c.requires.within c.loop-row.invariant c.loop-row-test.false c.split_at.ensures.back
    c.in_ok-extend_from_slice-2.ensures.items
