use Rattle.std.proofs.Common.{◌≡◌, ◌++◌, drop, string_bytes}
use Rattle.example_answers.specs.Answers.{lines_of}
use Rattle.resolvo_ids.specs.Mapping.{value_at}
use Rattle.example_certificates.specs.Numbers.{numbered}
use Rattle.example_certificates.specs.Texts.{variable_line}
use Rattle.example_certificates.proofs.writing.LineWriter.write_variables.Given as goal

abbrev pub invariant-loop-literal : goal.invariant-loop-literal
invariant-loop-literal g l =
    let variables = l.self.variables.now in
    let shown = numbered variables.literals.items (g.I.SolvableId.Slots.IdMap.value_at variables.solvables)
    (value_at variables.sets) in
    let interner = l.self.interner.now in
    let line = variable_line (g.I.Interner.universe interner) (g.I.Interner.texts interner) shown in
    string_bytes l.text ++ lines_of line (drop l.literal-index l.literals)
    ≡ string_bytes l.fn.text ++ lines_of line l.literals
