use Rattle.std.proofs.Common.{◌≡◌, ◌++◌, drop, string_bytes}
use Rattle.reports.specs.Graphs.{edges_text, leads_to}
use Rattle.reports.proofs.dot.write_edges.Given as goal

abbrev pub invariant-loop-place : goal.invariant-loop-place
invariant-loop-place g l =
    let leads = leads_to g.P.NameId.PartialEq.eq (g.P.Interner.universe l.provider)
    (g.P.DependencyProvider.answers l.provider) in
    let edges = edges_text leads l.lines in
    string_bytes l.text ++ edges l.place (drop l.place l.lines) ≡ string_bytes l.fn.text ++ edges 0 l.lines
