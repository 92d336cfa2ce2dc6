use Rattle.std.proofs.Common.{◌≤◌, take}
use Rattle.corrections.proofs.Words.{All, size}
use Rattle.corrections.proofs.marks.are_as_large.Given as goal

abbrev pub invariant-loop-set : goal.invariant-loop-set
invariant-loop-set g l = All (λ set. l.least ≤ size set.items) (take l.set-index l.sets)
