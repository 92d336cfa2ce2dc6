use Rattle.std.proofs.lemmas.Result.{on_ok_weaker}
use Rattle.reports.proofs.ReportLemmas.{is_report}
use Rattle.reports.proofs.report.write_report_with_names.Goals as goal

pub returns : goal.returns
returns g c =
    let provider = c.args.provider.now in
    on_ok_weaker c.write_lines.result
    (is_report (g.P.Interner.universe provider) (g.P.Interner.texts provider) g.P.NameId.PartialEq.eq
    g.P.SolvableId.PartialEq.eq (g.P.DependencyProvider.answers provider) c.args.names.now c.args.reasons.now
    c.in_ok-lines.lines.items c.deref.result.now c.args.text.now c.write_lines.new.text c.in_ok-lines.ensures
    c.deref.ensures.value)
    c.write_lines.ensures
