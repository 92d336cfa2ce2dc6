use Rattle.std.proofs.Common.{◌≡◌, drop}
use Rattle.reports.specs.Graphs.{speaks_of_any}
use Rattle.reports.proofs.edges.speaks_of_any.Given as goal

abbrev pub invariant-loop-set : goal.invariant-loop-set
invariant-loop-set g l =
    let speaks = speaks_of_any g.P.NameId.PartialEq.eq (g.P.Interner.universe l.provider)
    (g.P.DependencyProvider.answers l.provider) l.line in
    speaks (drop l.set-index l.sets) ≡ speaks l.sets
