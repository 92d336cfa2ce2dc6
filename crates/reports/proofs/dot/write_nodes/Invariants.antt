use Rattle.std.proofs.Common.{◌≡◌, ◌++◌, drop, string_bytes}
use Rattle.reports.specs.Graphs.{nodes_text}
use Rattle.reports.specs.LineTexts.{text_of_line}
use Rattle.reports.proofs.dot.write_nodes.Given as goal

abbrev pub invariant-loop-place : goal.invariant-loop-place
invariant-loop-place g l =
    let nodes = nodes_text (text_of_line (g.P.Interner.universe l.provider) (g.P.Interner.texts l.provider)
    g.P.SolvableId.PartialEq.eq (g.P.DependencyProvider.answers l.provider)) in
    string_bytes l.text ++ nodes l.place (drop l.place l.lines) ≡ string_bytes l.fn.text ++ nodes 0 l.lines
