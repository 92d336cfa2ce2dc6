use Rattle.std.proofs.Common.{◌≡◌, take, length}
use Rattle.corrections.proofs.Words.{AreNamedMarked}
use Rattle.corrections.proofs.without.named.Given as goal

abbrev pub invariant-loop-place : goal.invariant-loop-place
invariant-loop-place g l = (length l.marks.items ≡ l.place) × AreNamedMarked (take l.place l.requested) l.left_out
    l.reasons l.marks.items
