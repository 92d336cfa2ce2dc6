use Rattle.std.proofs.Common.{take}
use Rattle.resolvo_queue.proofs.Words.{AreWoken, GrowsBy, IsOfClause, values_in}
use Rattle.resolvo_queue.proofs.waking.wake_clauses.Given as goal

abbrev pub invariant-loop-number : goal.invariant-loop-number
invariant-loop-number g l = record {
  grows : GrowsBy (IsOfClause l.clauses) l.initial.queued l.queued;
  woken : AreWoken l.clauses (values_in l.map) (take l.number-index l.numbers) l.queued;
}
