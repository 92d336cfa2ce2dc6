use Rattle.std.proofs.Common.{◌≡◌, ℕ, ◌<◌, true, false}
use Rattle.corrections.proofs.Words.{is_marked}
use Rattle.corrections.proofs.marks.are_apart.Given as goal

abbrev pub invariant-loop-place : goal.invariant-loop-place
invariant-loop-place l = (k : ℕ) → k < l.place → is_marked l.one k ≡ true → is_marked l.other k ≡ false
