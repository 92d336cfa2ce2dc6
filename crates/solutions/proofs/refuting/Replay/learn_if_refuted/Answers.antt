use Rattle.std.proofs.Common.{◌≡◌, true, false, rules}
use Rattle.solutions.proofs.DecisionLemmas.{answered}
use Rattle.solutions.proofs.ReplayLemmas.{replayed_then}
use Rattle.solutions.proofs.refuting.Replay.learn_if_refuted.Goals as goal

pub learn-requires : goal.learn-requires
learn-requires g c =
    let yes : c.in_ok-are_refuted.field-0 ≡ true = search rules in
    c.in_ok-are_refuted.ensures.refuted yes

pub returns-then-not-branch : goal.returns-then-not-branch
returns-then-not-branch g c = c.in_ok-are_refuted.ensures.replayed

pub returns : goal.returns
returns g c =
    let old = c.args.self.now in
    let between = c.are_refuted.new.self in
    let now = c.learn.new.self in
    answered c.learn.result
    (λ answer. replayed_then old.theory.clauses.items old.trail.literals.items between.theory.clauses.items
    between.trail.literals.items
    now.theory.clauses.items now.trail.literals.items false answer c.in_ok-are_refuted.ensures.replayed)
    c.learn.ensures
