use Rattle.std.proofs.Common.{◌≡◌, ◌++◌, drop, string_bytes}
use Rattle.reports.specs.Reports.{needed_by, others_text, says_of, text_with_names}
use Rattle.reports.proofs.report.write_others.Given as goal

abbrev pub invariant-loop-line : goal.invariant-loop-line
invariant-loop-line g l =
    let universe = g.P.Interner.universe l.provider in
    let line = text_with_names universe (g.P.Interner.texts l.provider) g.P.SolvableId.PartialEq.eq
    (g.P.DependencyProvider.answers l.provider) l.names in
    let others = others_text line (needed_by universe) (says_of g.P.NameId.PartialEq.eq universe) l.full in
    string_bytes l.text ++ others l.room l.name (drop l.line-index l.others)
    ≡ string_bytes l.fn.text ++ others l.full (needed_by universe l.fn.first) l.others
