use Rattle.std.proofs.Common.{◌≡◌, ℕ, ◌<◌, true}
use Rattle.corrections.proofs.Words.{is_marked}
use Rattle.corrections.proofs.marks.is_within.Given as goal

abbrev pub invariant-loop-place : goal.invariant-loop-place
invariant-loop-place l = (k : ℕ) → k < l.place → is_marked l.few k ≡ true → is_marked l.many k ≡ true
