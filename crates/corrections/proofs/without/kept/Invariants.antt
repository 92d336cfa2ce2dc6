use Rattle.std.proofs.Common.{◌≡◌, take}
use Rattle.corrections.proofs.Words.{kept}
use Rattle.corrections.proofs.without.kept.Given as goal

abbrev pub invariant-loop-place : goal.invariant-loop-place
invariant-loop-place g l = l.rest.items ≡ kept l.left_out (take l.place l.requested)
