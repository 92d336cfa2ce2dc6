use Rattle.std.proofs.Common.{◌≡◌, ◌++◌, drop, string_bytes}
use Rattle.reports.specs.Nearest.{text_of_meant_sets}
use Rattle.reports.proofs.meant.write_meant_sets.Given as goal

abbrev pub invariant-loop-set : goal.invariant-loop-set
invariant-loop-set g l =
    let text = text_of_meant_sets (g.P.Interner.universe l.provider) (g.P.Interner.texts l.provider)
    (g.P.DependencyProvider.answers l.provider) l.names in
    string_bytes l.text ++ text (drop l.set-index l.sets) ≡ string_bytes l.fn.text ++ text l.sets
