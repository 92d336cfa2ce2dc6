use Rattle.std.proofs.Common.{take}
use Rattle.resolvo_queue.specs.Parts.{FoundByAll, GainsNumber}
use Rattle.resolvo_queue.proofs.clause_index.add_to_conditions.Given as goal

abbrev pub invariant-loop-literal : goal.invariant-loop-literal
invariant-loop-literal g l = record {
  grows : GainsNumber l.disjunction l.initial.conditions l.conditions;
  all : FoundByAll l.disjunction (take l.literal-index l.literals) l.conditions;
}
