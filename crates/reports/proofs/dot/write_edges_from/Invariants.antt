use Rattle.std.proofs.Common.{◌≡◌, ◌++◌, drop, string_bytes}
use Rattle.reports.specs.Graphs.{edges_from, leads_to}
use Rattle.reports.proofs.dot.write_edges_from.Given as goal

abbrev pub invariant-loop-place : goal.invariant-loop-place
invariant-loop-place g l =
    let leads = leads_to g.P.NameId.PartialEq.eq (g.P.Interner.universe l.provider)
    (g.P.DependencyProvider.answers l.provider) in
    let edges = edges_from leads l.from l.line in
    string_bytes l.text ++ edges l.place (drop l.place l.lines) ≡ string_bytes l.fn.text ++ edges 0 l.lines
