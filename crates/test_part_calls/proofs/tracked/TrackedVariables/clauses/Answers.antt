use Rattle.std.proofs.Common.{sym, subst}
use Rattle.at_most_once.specs.AtMostOne.{SaysAtMostOne, is_satisfied}
use Rattle.test_part_calls.proofs.tracked.TrackedVariables.clauses.Goals as goal

pub returns : goal.returns
returns g c =
    subst (λ t. SaysAtMostOne g.V.PartialEq.eq is_satisfied t.0 c.as_slice.result.now) c.self.view_is
    (subst (λ cs. SaysAtMostOne g.V.PartialEq.eq is_satisfied c.self.inside.tracker.tracker cs)
    (sym c.as_slice.ensures.value) c.self.invariant.says)
