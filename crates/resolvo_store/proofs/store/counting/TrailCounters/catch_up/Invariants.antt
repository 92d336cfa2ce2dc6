use Rattle.std.specs.Prelude.{◌≡◌, take}
use Rattle.resolvo_store.proofs.Words.{Counted, Counts, false_by, Follows}
use Rattle.resolvo_store.specs.contracts.store.counting.TrailCounters.catch_up.{A-type}
use Rattle.resolvo_store.proofs.store.counting.TrailCounters.catch_up.Given as goal

abbrev pub invariant-loop-index : goal.invariant-loop-index
invariant-loop-index g l = record {
  known : l.self-inside.known ≡ l.fn.self.known;
  counts : (s : Counted (A-type g.row.A)) → Follows l.fn.self l.trail.entries s
      → Counts l.self-inside.clauses (record s { is_false = false_by (take l.index l.trail.entries) });
}
