use Rattle.std.specs.Prelude.{◌≡◌, ◌≤◌, length}
use Rattle.resolvo_store.proofs.Words.{Counted, Follows}
use Rattle.resolvo_store.specs.contracts.store.counting.TrailCounters.uncount_above.{A-type}
use Rattle.resolvo_store.proofs.store.counting.TrailCounters.uncount_above.Given as goal

abbrev pub invariant-loop-self : goal.invariant-loop-self
invariant-loop-self g l = record {
  known : l.self.known ≡ l.fn.self.known;
  within : l.self.counted ≤ length l.trail.entries;
  follows : (s : Counted (A-type g.row.A)) → Follows l.fn.self l.trail.entries s → Follows l.self l.trail.entries s;
}

abbrev pub decreases-loop-self : goal.decreases-loop-self
decreases-loop-self g l = l.self.counted
