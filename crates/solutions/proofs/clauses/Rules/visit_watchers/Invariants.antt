use Rattle.std.proofs.Common.{false}
use Rattle.solutions.proofs.Words.{AreSatisfied, Follows}
use Rattle.solutions.proofs.clauses.Rules.visit_watchers.Given as goal

abbrev pub invariant-loop : goal.invariant-loop
invariant-loop g l = Follows (λ holds. AreSatisfied holds l.self.clauses.now) l.fn.trail.literals.items
    l.trail.literals.items false
