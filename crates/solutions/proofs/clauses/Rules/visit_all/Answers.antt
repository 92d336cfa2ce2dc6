use Rattle.std.proofs.Common.{◌≡◌, true, false, rules}
use Rattle.solutions.proofs.Words.{AreSatisfied}
use Rattle.solutions.proofs.FollowsLemmas.{follows_none, follows_step}
use Rattle.solutions.proofs.clauses.Rules.visit_all.Goals as goal

pub loop-place-init : goal.loop-place-init
loop-place-init g c = follows_none (λ holds. AreSatisfied holds c.args.self.now.clauses.now)
    c.args.trail.now.literals.items

pub loop-place-preserved : goal.loop-place-preserved
loop-place-preserved g c =
    let no : c.in_ok-attach.field-0 ≡ false = search rules in
    follows_step (λ holds. AreSatisfied holds c.args.self.now.clauses.now)
    (λ holds. AreSatisfied holds c.args.self.now.clauses.now) c.args.trail.now.literals.items
    c.loop-place.trail.literals.items c.attach.new.trail.literals.items
    c.in_ok-attach.field-0 false no (λ holds such trail. such) c.loop-place.invariant c.in_ok-attach.ensures

pub returns-then-branch : goal.returns-then-branch
returns-then-branch g c =
    let yes : c.in_ok-attach.field-0 ≡ true = search rules in
    follows_step (λ holds. AreSatisfied holds c.args.self.now.clauses.now)
    (λ holds. AreSatisfied holds c.args.self.now.clauses.now) c.args.trail.now.literals.items
    c.loop-place.trail.literals.items c.attach.new.trail.literals.items
    c.in_ok-attach.field-0 true yes (λ holds such trail. such) c.loop-place.invariant c.in_ok-attach.ensures
