use Rattle.resolvo_queue.proofs.Words.{AllWokenFrom, GrowsBy, IsOfClause, values_in}
use Rattle.resolvo_queue.proofs.waking.wake_from.Given as goal

abbrev pub invariant-loop-number : goal.invariant-loop-number
invariant-loop-number g l = record {
  grows : GrowsBy (IsOfClause l.clauses) l.initial.queued l.queued;
  woken : AllWokenFrom l.number l.clauses (values_in l.map) l.queued;
}
