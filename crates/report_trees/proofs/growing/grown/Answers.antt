use Rattle.std.proofs.Common.{◌≡◌, ◌∙◌, arith, flat_map, length}
use Rattle.std.proofs.lemmas.Result.{IfOk-weaker}
use Rattle.report_trees.specs.Forests.{has_edge}
use Rattle.report_trees.specs.Growing.{AreRows, lists}
use Rattle.report_trees.proofs.GrowingLemmas.{begins, grown_from, length_of_single}
use Rattle.report_trees.proofs.growing.grown.Goals as goal

pub loop-line-init : goal.loop-line-init
loop-line-init g c =
    let leads = has_edge (lists c.args.edges.now) in
    let count = length c.args.edges.now in (
      length_of_single leads c.in_ok-trees.trees.items count c.in_ok-trees.ensures,
      begins leads count count (lists c.in_ok-trees.trees.items) c.in_ok-trees.ensures (omega arith),
    )

pub loop-line-preserved : goal.loop-line-preserved
loop-line-preserved g c =
    (c.in_ok-attach.ensures.same_length ∙ c.loop-line.invariant.0, c.in_ok-attach.ensures.growing)

pub returns : goal.returns
returns g c =
    IfOk-weaker c.joined.result (λ rows. rows.items ≡ flat_map (λ tree. tree.items) c.deref.result.now)
    (λ rows. AreRows (has_edge (lists c.args.edges.now)) (length c.args.edges.now) rows.items)
    (λ rows are. grown_from (has_edge (lists c.args.edges.now)) c.loop-line.trees.items c.deref.result.now rows.items
    c.loop-line.line (length c.args.edges.now) c.loop-line-test.false c.loop-line.invariant.1 c.loop-line.invariant.0
    c.deref.ensures.value are) c.joined.ensures
