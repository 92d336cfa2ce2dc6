use Rattle.std.proofs.Common.{◌≡◌, true, false, refl, rules}
use Rattle.solutions.proofs.Words.{AreSatisfied}
use Rattle.solutions.proofs.DecisionLemmas.{answered}
use Rattle.solutions.proofs.FollowsLemmas.{follows_none, follows_step}
use Rattle.solutions.proofs.clauses.Rules.propagate_clause.Goals as goal

pub returns-then-branch : goal.returns-then-branch
returns-then-branch g c =
    let yes : c.in_ok-attach.field-0 ≡ true = search rules in
    follows_step (λ holds. AreSatisfied holds c.args.self.now.clauses.now)
    (λ holds. AreSatisfied holds c.args.self.now.clauses.now) c.args.trail.now.literals.items
    c.args.trail.now.literals.items c.attach.new.trail.literals.items c.in_ok-attach.field-0 true yes
    (λ holds such trail. such) (follows_none (λ holds. AreSatisfied holds c.args.self.now.clauses.now)
    c.args.trail.now.literals.items) c.in_ok-attach.ensures

pub returns : goal.returns
returns g c =
    let no : c.in_ok-attach.field-0 ≡ false = search rules in
    answered c.propagate.result
    (λ answer follows. follows_step (λ holds. AreSatisfied holds c.args.self.now.clauses.now)
    (λ holds. AreSatisfied holds c.args.self.now.clauses.now) c.args.trail.now.literals.items
    c.attach.new.trail.literals.items c.propagate.new.trail.literals.items answer answer refl
    (λ holds such trail. such)
    (follows_step (λ holds. AreSatisfied holds c.args.self.now.clauses.now)
    (λ holds. AreSatisfied holds c.args.self.now.clauses.now) c.args.trail.now.literals.items
    c.args.trail.now.literals.items c.attach.new.trail.literals.items c.in_ok-attach.field-0 false no
    (λ holds such trail. such) (follows_none (λ holds. AreSatisfied holds c.args.self.now.clauses.now)
    c.args.trail.now.literals.items) c.in_ok-attach.ensures)
    follows)
    c.propagate.ensures
