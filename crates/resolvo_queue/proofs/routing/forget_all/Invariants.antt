use Rattle.std.proofs.Common.{take}
use Rattle.resolvo_queue.proofs.Words.{AreUnknown, ForgetsAmong, GrowsBy, IsOfClause, OnlyForgets, WakesForgotten, ways}
use Rattle.resolvo_queue.proofs.routing.forget_all.Given as goal

abbrev pub invariant-loop-requirement : goal.invariant-loop-requirement
invariant-loop-requirement g l = record {
  grows : GrowsBy (IsOfClause l.routing.clauses.now) l.initial.queued l.queued;
  only : OnlyForgets l.initial.requirements l.requirements;
  others : ForgetsAmong l.listed l.initial.requirements l.requirements;
  unknown : AreUnknown (take l.requirement-index l.listed) l.requirements;
  woken : WakesForgotten (ways l.routing) l.initial.requirements l.requirements l.queued;
}
