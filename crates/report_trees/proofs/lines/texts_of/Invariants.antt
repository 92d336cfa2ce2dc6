use Rattle.std.proofs.Common.{◌≡◌, map, string_bytes, take}
use Rattle.reports.specs.Reports.{text_with_names}
use Rattle.report_trees.proofs.lines.texts_of.Given as goal

abbrev pub invariant-loop-line : goal.invariant-loop-line
invariant-loop-line g l =
    let said = text_with_names (g.P.Interner.universe l.provider) (g.P.Interner.texts l.provider)
    g.P.SolvableId.PartialEq.eq (g.P.DependencyProvider.answers l.provider) l.names in
    map string_bytes l.texts.items ≡ map said (take l.line-index l.lines)
