use Rattle.std.proofs.Common.{take}
use Rattle.resolvo_queue.proofs.Words.{AreNoted, KeepsNoted}
use Rattle.resolvo_queue.proofs.routing.note_conditions.Given as goal

abbrev pub invariant-loop-disjunction : goal.invariant-loop-disjunction
invariant-loop-disjunction g l = record {
  kept : KeepsNoted l.initial.noted l.noted;
  all : AreNoted (take l.disjunction-index l.disjunctions) l.noted;
}
