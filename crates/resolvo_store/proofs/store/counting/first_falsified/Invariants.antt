use Rattle.std.specs.Prelude.{◌≡◌, ◌-◌, length}
use Rattle.resolvo_store.proofs.Words.{AreCounted}
use Rattle.resolvo_store.proofs.store.counting.first_falsified.Given as goal

abbrev pub invariant-loop-counters : goal.invariant-loop-counters
invariant-loop-counters g l = record {
  counted : AreCounted l.counters l.queue.clauses l.trail.entries l.lists l.disjunctions;
  all : l.counters.counted ≡ length l.trail.entries;
}

abbrev pub decreases-loop-counters : goal.decreases-loop-counters
decreases-loop-counters g l = length l.queue.clauses - l.counters.known
