use Rattle.std.proofs.Common.{◌≡◌, ◌++◌, drop, string_bytes}
use Rattle.corrections.proofs.Words.{text_of_each}
use Rattle.corrections.proofs.proposals.write_each.Given as goal

abbrev pub invariant-loop-requirement : goal.invariant-loop-requirement
invariant-loop-requirement g l =
    let text = text_of_each (g.I.Interner.universe l.interner) (g.I.Interner.texts l.interner) in
    string_bytes l.text ++ text (drop l.requirement-index l.requirements)
    ≡ string_bytes l.fn.text ++ text l.requirements
