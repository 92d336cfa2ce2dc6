use Rattle.std.proofs.Common.{◌≡◌, ◌++◌, drop, string_bytes}
use Rattle.reports.specs.LineTexts.{text_of_further}
use Rattle.reports.proofs.missing.write_further.Given as goal

abbrev pub invariant-loop-set : goal.invariant-loop-set
invariant-loop-set g l =
    let text = text_of_further (g.P.Interner.universe l.provider) (g.P.Interner.texts l.provider)
    (g.P.DependencyProvider.answers l.provider) in
    string_bytes l.text ++ text (drop l.set-index l.sets) ≡ string_bytes l.fn.text ++ text l.sets
