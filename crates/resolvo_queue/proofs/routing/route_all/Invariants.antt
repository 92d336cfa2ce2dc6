use Rattle.std.proofs.Common.{take}
use Rattle.resolvo_queue.proofs.Words.{KeepsNoted, NotesConditions, Routes, variables_of, ways}
use Rattle.resolvo_queue.proofs.routing.route_all.Given as goal

abbrev pub invariant-loop-decision : goal.invariant-loop-decision
invariant-loop-decision g l = record {
  routes : Routes (ways l.routing) (variables_of (take l.decision-index l.decisions)) l.initial.requirements
      l.requirements l.initial.queued l.queued;
  kept : KeepsNoted l.initial.noted l.noted;
  noted : NotesConditions (ways l.routing) (variables_of (take l.decision-index l.decisions)) l.noted;
}
