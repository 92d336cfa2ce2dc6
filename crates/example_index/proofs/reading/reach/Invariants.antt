use Rattle.std.proofs.Common.{◌≤◌, ℕ, length}
use Rattle.example_index.proofs.Words.{IsSame, slice_get}
use Rattle.example_index.proofs.reading.reach.Given as goal

abbrev pub invariant-loop : goal.invariant-loop
invariant-loop l = record {
  same : (m : ℕ) → IsSame (slice_get l.fn.packages.items m) (slice_get l.packages.items m);
  longer : l.counter ≤ length l.packages.items;
}
