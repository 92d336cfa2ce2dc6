use Rattle.std.proofs.Common.{◌≡◌, ◌≤◌, length}
use Rattle.example_answers.proofs.Words.{range_with_len}
use Rattle.example_answers.proofs.names.names_of.Given as goal

abbrev pub invariant-loop-place : goal.invariant-loop-place
invariant-loop-place l = record {
  known : l.place ≤ length l.index.pool.names;
  taken : l.names.items ≡ range_with_len 0 l.place;
}
