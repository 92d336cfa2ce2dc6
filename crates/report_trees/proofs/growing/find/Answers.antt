use Rattle.std.proofs.Common.{◌≢◌, ◌∙◌, List, below_more, subst}
use Rattle.report_trees.specs.Forests.{has_edge}
use Rattle.report_trees.specs.Growing.{LeadNotTo, lists}
use Rattle.report_trees.specs.declared.row.Row.{Row}
use Rattle.report_trees.proofs.GrowingLemmas.{list_at}
use Rattle.report_trees.proofs.growing.find.Goals as goal
use Rattle.report_trees.proofs.growing.find.Goals.{then-tree-line+in_default, else-tree-line}

pub loop-tree-preserved : goal.loop-tree-preserved
loop-tree-preserved g c =
    below_more _ _ c.loop-tree.invariant
    (elim c.if-tree-line.branch [
      | then-tree-line+in_default w ↦ λ (apart : c.loop-tree.tree ≢ c.args.line).
          subst (λ (rows : List Row). LeadNotTo (has_edge (lists c.args.edges.now)) c.args.line rows)
          (w.deref.ensures.value
          ∙ list_at c.args.trees.now c.loop-tree.tree c.index-trees-tree.result c.loop-tree-test.true
          c.index-trees-tree.is) w.in_default.ensures
      | else-tree-line w ↦ λ (apart : c.loop-tree.tree ≢ c.args.line). absurd (apart w.if-tree-line.false)
    ])
