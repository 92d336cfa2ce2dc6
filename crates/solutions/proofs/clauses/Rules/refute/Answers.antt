use Rattle.std.proofs.Common.{◌≡◌, ◌∙◌, length, take, rules, ap}
use Rattle.solutions.proofs.Words.{AreSatisfied, AreTrue}
use Rattle.solutions.proofs.FollowsLemmas.{follows_take}
use Rattle.solutions.proofs.clauses.Rules.refute.Goals as goal

pub returns-clause-refuted : goal.returns-clause-refuted
returns-clause-refuted g c = λ yes holds met true_ones assumed. c.in_ok-refuted.ensures.refuted yes holds (
  met,
  assumed,
) true_ones

pub returns-clause-rolled_back : goal.returns-clause-rolled_back
returns-clause-rolled_back g c =
    let count : c.len-count.result ≡ length c.args.trail.now.literals.items = search rules in
    c.truncate.ensures.items ∙ ap (λ n. take n c.propagate_assumed.new.trail.literals.items) count
    ∙ follows_take (λ holds. (AreSatisfied holds c.args.self.now.clauses.now × AreTrue holds c.args.assumed.now))
    c.args.trail.now.literals.items c.propagate_assumed.new.trail.literals.items c.in_ok-refuted.refuted
    c.in_ok-refuted.ensures
