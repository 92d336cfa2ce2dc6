use Rattle.std.proofs.Common.{◌≡◌, ◌++◌, drop}
use Rattle.reports.specs.Nearest.{measured}
use Rattle.reports.proofs.nearest_name.measured.Given as goal

abbrev pub invariant-loop-name : goal.invariant-loop-name
invariant-loop-name g l =
    let all = measured (g.I.Interner.universe l.interner) (g.I.Interner.texts l.interner) l.text in
    l.found.items ++ all (drop l.name-index l.names) ≡ all l.names
