use Rattle.std.proofs.Common.{false}
use Rattle.solutions.proofs.Words.{AreSatisfied, Follows}
use Rattle.solutions.proofs.clauses.Rules.propagate.Given as goal

abbrev pub invariant-loop-place : goal.invariant-loop-place
invariant-loop-place g l = Follows (λ holds. AreSatisfied holds l.self.clauses.now) l.fn.trail.literals.items
    l.trail.literals.items false
