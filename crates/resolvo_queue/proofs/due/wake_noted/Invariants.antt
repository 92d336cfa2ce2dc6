use Rattle.std.proofs.Common.{ℕ, take}
use Rattle.resolvo_queue.proofs.Words.{GrowsBy, IsOfClause, Stands, values_in, WakesIfMet}
use Rattle.resolvo_queue.proofs.due.wake_noted.Given as goal

abbrev pub invariant-loop-disjunction : goal.invariant-loop-disjunction
invariant-loop-disjunction g l = record {
  grows : GrowsBy (IsOfClause l.index.clauses.items) l.initial.queued l.queued;
  woken : (d : ℕ) → Stands d (take l.disjunction-index l.conditions) →
      WakesIfMet l.index.clauses.items l.question.disjunctions.now (values_in l.question.map.now) d l.queued;
}
