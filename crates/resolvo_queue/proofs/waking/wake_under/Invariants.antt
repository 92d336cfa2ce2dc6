use Rattle.resolvo_queue.proofs.Words.{GrowsBy, IsOfClause, values_in}
use Rattle.resolvo_queue.proofs.Clauses.Chained.{IsGoneTo}
use Rattle.resolvo_queue.proofs.waking.wake_under.Given as goal

abbrev pub invariant-loop-next : goal.invariant-loop-next
invariant-loop-next g l = record {
  grows : GrowsBy (IsOfClause l.index.clauses.items) l.initial.queued l.queued;
  gone : IsGoneTo l.index.clauses.items l.disjunction (values_in l.map) l.next l.queued;
}

abbrev pub decreases-loop-next : goal.decreases-loop-next
decreases-loop-next g l = l.next
