use Rattle.std.proofs.Common.{◌≡◌, ◌≤◌, ◌<◌, ℕ, length, slice_index}
use Rattle.solutions.proofs.best.granted.Given as goal

abbrev pub invariant-loop-place : goal.invariant-loop-place
invariant-loop-place l = record {
  within : l.place ≤ length l.ranks;
  zeros : (place : ℕ) → place < l.place → slice_index l.ranks place ≡ 0;
}
