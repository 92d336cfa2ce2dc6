use Rattle.std.proofs.Common.{◌≡◌, ◌⊎◌, ℕ, true, None, Some, slice_get}
use Rattle.resolvo_queue.proofs.Words.{Heats, IsFrom, StandsUnder, TrackedClause, tracking_of}
use Rattle.resolvo_queue.proofs.Clauses.ByName.{places_left}
use Rattle.resolvo_queue.proofs.tracked_clauses.TrackedClauses.heat_clauses.Given as goal

abbrev pub invariant-loop-next : goal.invariant-loop-next
invariant-loop-next g l = record {
  heats : Heats (tracking_of l.initial.self) (tracking_of l.self);
  hot : (n : ℕ) (c : TrackedClause) → StandsUnder g.N.Slots.IdMap.value_at l.by_name l.fn.name n →
      IsFrom l.by_name.entries n l.next ⊎ (slice_get l.self.index.clauses.items n ≡ Some c → c.is_hot ≡ true);
  none : g.N.Slots.IdMap.value_at l.by_name.newest l.fn.name ≡ None → l.next ≡ None;
  only_hot : l.self.only_hot ≡ l.initial.self.only_hot;
  trail : l.self.trail ≡ l.initial.self.trail;
  anew : l.self.must_start_anew ≡ l.initial.self.must_start_anew;
}

abbrev pub decreases-loop-next : goal.decreases-loop-next
decreases-loop-next g l = places_left l.next
