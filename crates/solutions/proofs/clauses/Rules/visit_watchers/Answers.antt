use Rattle.std.proofs.Common.{◌≡◌, true, false, rules, subst, sym}
use Rattle.solutions.proofs.Words.{AreSatisfied, Follows}
use Rattle.solutions.proofs.FollowsLemmas.{follows_none, follows_step}
use Rattle.solutions.proofs.clauses.Rules.visit_watchers.Goals as goal

pub loop-init : goal.loop-init
loop-init g c = follows_none (λ holds. AreSatisfied holds c.args.self.now.clauses.now) c.args.trail.now.literals.items

pub loop-preserved : goal.loop-preserved
loop-preserved g c =
    let no : c.in_ok-visit.field-0 ≡ false = search rules in
    let before : Follows (λ holds. AreSatisfied holds c.args.self.now.clauses.now) c.args.trail.now.literals.items
    c.next_place.new.self.literals.items false =
    subst (λ next. Follows (λ holds. AreSatisfied holds c.args.self.now.clauses.now) c.args.trail.now.literals.items
    next false) (sym c.next_place.ensures) c.loop.invariant in
    follows_step (λ holds. AreSatisfied holds c.args.self.now.clauses.now)
    (λ holds. AreSatisfied holds c.args.self.now.clauses.now) c.args.trail.now.literals.items
    c.next_place.new.self.literals.items c.visit.new.trail.literals.items
    c.in_ok-visit.field-0 false no (λ holds such trail. such) before c.in_ok-visit.ensures

pub returns-then-branch : goal.returns-then-branch
returns-then-branch g c =
    let yes : c.in_ok-visit.field-0 ≡ true = search rules in
    let before : Follows (λ holds. AreSatisfied holds c.args.self.now.clauses.now) c.args.trail.now.literals.items
    c.next_place.new.self.literals.items false =
    subst (λ next. Follows (λ holds. AreSatisfied holds c.args.self.now.clauses.now) c.args.trail.now.literals.items
    next false) (sym c.next_place.ensures) c.loop.invariant in
    follows_step (λ holds. AreSatisfied holds c.args.self.now.clauses.now)
    (λ holds. AreSatisfied holds c.args.self.now.clauses.now) c.args.trail.now.literals.items
    c.next_place.new.self.literals.items c.visit.new.trail.literals.items
    c.in_ok-visit.field-0 true yes (λ holds such trail. such) before c.in_ok-visit.ensures

pub returns-in_default : goal.returns-in_default
returns-in_default g c =
    subst (λ next. Follows (λ holds. AreSatisfied holds c.args.self.now.clauses.now) c.args.trail.now.literals.items
    next false) (sym c.next_place.ensures) c.loop.invariant
