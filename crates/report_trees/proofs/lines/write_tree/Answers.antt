use Rattle.std.proofs.Common.{◌≤◌, arith, length}
use Rattle.std.proofs.lemmas.Result.{on_ok_weaker}
use Rattle.report_trees.proofs.ReportLemmas.{tree_of_few}
use Rattle.report_trees.proofs.lines.write_tree.Goals as goal

pub returns : goal.returns
returns g c =
    let provider = c.args.provider.now in
    let few : length c.in_ok-lines.lines.items ≤ 20 =
    first_of (omega arith, omega (arith, c.in_ok-lines.lines.ok.0)) in
    on_ok_weaker c.write_lines.result
    (tree_of_few (g.P.Interner.universe provider) (g.P.Interner.texts provider) g.P.NameId.PartialEq.eq
    g.P.SolvableId.PartialEq.eq (g.P.DependencyProvider.answers provider) c.args.names.now c.args.reasons.now
    c.in_ok-lines.lines.items c.deref.result.now c.args.text.now c.write_lines.new.text c.in_ok-lines.ensures
    c.deref.ensures.value few)
    c.write_lines.ensures
