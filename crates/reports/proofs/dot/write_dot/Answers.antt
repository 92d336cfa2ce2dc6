use Rattle.std.proofs.lemmas.Result.{on_ok_weaker}
use Rattle.reports.proofs.ReportLemmas.{is_graph}
use Rattle.reports.proofs.dot.write_dot.Goals as goal

pub returns : goal.returns
returns g c =
    let provider = c.args.provider.now in
    on_ok_weaker c.write_graph.result
    (is_graph (g.P.Interner.universe provider) (g.P.Interner.texts provider) g.P.NameId.PartialEq.eq
    g.P.SolvableId.PartialEq.eq (g.P.DependencyProvider.answers provider) c.args.reasons.now c.in_ok-lines.lines.items
    c.deref.result.now c.args.text.now c.write_graph.new.text c.in_ok-lines.ensures c.deref.ensures.value)
    c.write_graph.ensures
