use Rattle.std.proofs.Common.{◌≡◌, ◌++◌, drop, string_bytes}
use Rattle.resolvo_ids.specs.Mapping.{value_at}
use Rattle.example_certificates.specs.Numbers.{number_of}
use Rattle.example_certificates.specs.Texts.{literals_text}
use Rattle.example_certificates.proofs.writing.LineWriter.write_clause.Given as goal

abbrev pub invariant-loop-literal : goal.invariant-loop-literal
invariant-loop-literal g l =
    let variables = l.self.variables.now in
    let number = number_of (g.I.SolvableId.Slots.IdMap.value_at variables.solvables) (value_at variables.sets) in
    string_bytes l.text ++ literals_text number (drop l.literal-index l.clause)
    ≡ string_bytes l.fn.text ++ literals_text number l.clause
