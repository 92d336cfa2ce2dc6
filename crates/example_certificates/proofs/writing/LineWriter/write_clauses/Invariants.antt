use Rattle.std.proofs.Common.{◌≡◌, ◌++◌, drop, string_bytes}
use Rattle.resolvo_ids.specs.Mapping.{value_at}
use Rattle.example_certificates.specs.Numbers.{number_of}
use Rattle.example_certificates.specs.Texts.{clauses_text}
use Rattle.example_certificates.proofs.writing.LineWriter.write_clauses.Given as goal

abbrev pub invariant-loop-clause : goal.invariant-loop-clause
invariant-loop-clause g l =
    let variables = l.self.variables.now in
    let number = number_of (g.I.SolvableId.Slots.IdMap.value_at variables.solvables) (value_at variables.sets) in
    string_bytes l.text ++ clauses_text number (drop l.clause-index l.clauses)
    ≡ string_bytes l.fn.text ++ clauses_text number l.clauses
