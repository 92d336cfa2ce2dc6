use Rattle.std.proofs.Common.{◌∙◌, ◌∷◌, ◌++◌, [], None, ap}
use Rattle.report_trees.specs.Growing.{lists}
use Rattle.report_trees.proofs.GrowingLemmas.{one_more}
use Rattle.report_trees.proofs.growing.single_trees.Goals as goal

pub loop-line-preserved : goal.loop-line-preserved
loop-line-preserved g c =
    ap lists c.in_ok-push-2.ensures.items
    ∙ one_more c.loop-line.trees.items c.push.new.self c.loop-line.line c.loop-line.invariant
    (c.in_ok-push.ensures.items
    ∙ ap (λ t. t ++ record { line = c.loop-line.line; depth = 0; parent = None } ∷ []) c.new-tree.ensures.items)
