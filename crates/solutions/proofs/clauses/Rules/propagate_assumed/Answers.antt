use Rattle.std.proofs.Common.{◌≡◌, true, false, refl, rules}
use Rattle.solutions.proofs.Words.{AreSatisfied, AreTrue}
use Rattle.solutions.proofs.DecisionLemmas.{answered}
use Rattle.solutions.proofs.FollowsLemmas.{follows_none, follows_step}
use Rattle.solutions.proofs.clauses.Rules.propagate_assumed.Goals as goal

pub returns-then-branch : goal.returns-then-branch
returns-then-branch g c =
    let yes : c.in_ok-assume.field-0 ≡ true = search rules in
    follows_step (λ holds. (AreSatisfied holds c.args.self.now.clauses.now × AreTrue holds c.args.assumed.now))
    (λ holds. AreTrue holds c.args.assumed.now) c.args.trail.now.literals.items c.args.trail.now.literals.items
    c.assume.new.trail.literals.items c.in_ok-assume.field-0 true yes
    (λ holds such trail. such.1) (follows_none (λ holds. (AreSatisfied holds c.args.self.now.clauses.now
    × AreTrue holds c.args.assumed.now)) c.args.trail.now.literals.items) c.in_ok-assume.ensures

pub returns : goal.returns
returns g c =
    let no : c.in_ok-assume.field-0 ≡ false = search rules in
    answered c.propagate.result
    (λ answer follows. follows_step (λ holds. (AreSatisfied holds c.args.self.now.clauses.now
    × AreTrue holds c.args.assumed.now)) (λ holds. AreSatisfied holds c.args.self.now.clauses.now)
    c.args.trail.now.literals.items c.assume.new.trail.literals.items c.propagate.new.trail.literals.items answer
    answer refl
    (λ holds such trail. such.0)
    (follows_step (λ holds. (AreSatisfied holds c.args.self.now.clauses.now × AreTrue holds c.args.assumed.now))
    (λ holds. AreTrue holds c.args.assumed.now) c.args.trail.now.literals.items c.args.trail.now.literals.items
    c.assume.new.trail.literals.items c.in_ok-assume.field-0 false no
    (λ holds such trail. such.1) (follows_none (λ holds. (AreSatisfied holds c.args.self.now.clauses.now
    × AreTrue holds c.args.assumed.now)) c.args.trail.now.literals.items) c.in_ok-assume.ensures)
    follows)
    c.propagate.ensures
