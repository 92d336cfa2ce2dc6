use Rattle.std.proofs.Common.{false}
use Rattle.solutions.proofs.Words.{AreTrue, Follows}
use Rattle.solutions.proofs.clauses.assume.Given as goal

abbrev pub invariant-loop-literal : goal.invariant-loop-literal
invariant-loop-literal g l = Follows (λ holds. AreTrue holds l.literals) l.fn.trail.literals.items
    l.trail.literals.items false
