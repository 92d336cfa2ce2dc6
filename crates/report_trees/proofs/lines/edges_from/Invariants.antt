use Rattle.std.proofs.Common.{◌≡◌, map, take}
use Rattle.reports.specs.Graphs.{leads_to}
use Rattle.report_trees.proofs.lines.edges_from.Given as goal

abbrev pub invariant-loop-line : goal.invariant-loop-line
invariant-loop-line g l =
    let leads = leads_to g.P.NameId.PartialEq.eq (g.P.Interner.universe l.provider)
    (g.P.DependencyProvider.answers l.provider) in
    l.edges.items ≡ map (leads l.from) (take l.line-index l.lines)
