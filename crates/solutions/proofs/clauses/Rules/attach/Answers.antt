use Rattle.std.proofs.Common.{subst}
use Rattle.solutions.proofs.Words.{AreSatisfied, Follows}
use Rattle.solutions.proofs.DecisionLemmas.{answered}
use Rattle.solutions.proofs.clauses.Rules.attach.Goals as goal

pub returns : goal.returns
returns g c =
    answered c.visit.result
    (λ answer follows. subst (λ first. Follows (λ holds. AreSatisfied holds c.args.self.now.clauses.now) first
    c.visit.new.trail.literals.items answer) c.watch_at.ensures follows)
    c.visit.ensures
