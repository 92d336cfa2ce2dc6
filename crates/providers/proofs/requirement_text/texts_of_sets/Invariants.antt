use Rattle.std.proofs.Common.{◌≡◌, ◌++◌, map, drop, string_bytes}
use Rattle.providers.specs.Texts.{single_text}
use Rattle.providers.proofs.requirement_text.texts_of_sets.Given as goal

abbrev pub invariant-loop-set : goal.invariant-loop-set
invariant-loop-set g l =
    let text = single_text (g.I.Interner.universe l.interner) (g.I.Interner.texts l.interner) in
    map string_bytes l.texts.items ++ map text (drop l.set-index l.sets) ≡ map text l.sets
