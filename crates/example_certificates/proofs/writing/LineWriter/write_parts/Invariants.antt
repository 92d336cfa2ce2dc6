use Rattle.std.proofs.Common.{◌≡◌, ◌++◌, drop, string_bytes}
use Rattle.resolvo_ids.specs.Mapping.{value_at}
use Rattle.example_certificates.specs.Numbers.{numbered}
use Rattle.example_certificates.specs.Texts.{parts_text}
use Rattle.example_certificates.proofs.writing.LineWriter.write_parts.Given as goal

abbrev pub invariant-loop-part : goal.invariant-loop-part
invariant-loop-part g l =
    let variables = l.self.variables.now in
    let shown = numbered variables.literals.items (g.I.SolvableId.Slots.IdMap.value_at variables.solvables)
    (value_at variables.sets) in
    let interner = l.self.interner.now in
    let universe = g.I.Interner.universe interner in
    let texts = g.I.Interner.texts interner in
    string_bytes l.text ++ parts_text universe texts shown (drop l.part-index l.parts)
    ≡ string_bytes l.fn.text ++ parts_text universe texts shown l.parts
