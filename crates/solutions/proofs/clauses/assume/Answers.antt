use Rattle.std.proofs.Common.{◌≡◌, true, false, rules}
use Rattle.solutions.proofs.Words.{AreTrue, is_true}
use Rattle.solutions.proofs.FollowsLemmas.{follows_none, follows_step, true_at}
use Rattle.solutions.proofs.clauses.assume.Goals as goal

pub loop-literal-init : goal.loop-literal-init
loop-literal-init g c = follows_none (λ holds. AreTrue holds c.args.literals.now) c.args.trail.now.literals.items

pub loop-literal-preserved : goal.loop-literal-preserved
loop-literal-preserved g c =
    let no : c.in_ok-add.field-0 ≡ false = search rules in
    follows_step (λ holds. AreTrue holds c.args.literals.now)
    (λ holds. is_true holds c.literal-item.result ≡ true) c.args.trail.now.literals.items
    c.loop-literal.trail.literals.items c.add.new.self.literals.items
    c.in_ok-add.field-0 false no (λ holds such trail. true_at holds c.args.literals.now c.loop-literal.literal-index
    c.literal-item.result c.loop-literal-test.true c.literal-item.is such) c.loop-literal.invariant
    c.in_ok-add.ensures

pub returns-then-branch : goal.returns-then-branch
returns-then-branch g c =
    let yes : c.in_ok-add.field-0 ≡ true = search rules in
    follows_step (λ holds. AreTrue holds c.args.literals.now)
    (λ holds. is_true holds c.literal-item.result ≡ true) c.args.trail.now.literals.items
    c.loop-literal.trail.literals.items c.add.new.self.literals.items
    c.in_ok-add.field-0 true yes (λ holds such trail. true_at holds c.args.literals.now c.loop-literal.literal-index
    c.literal-item.result c.loop-literal-test.true c.literal-item.is such) c.loop-literal.invariant
    c.in_ok-add.ensures
