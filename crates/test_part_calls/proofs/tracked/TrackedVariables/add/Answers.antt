use Rattle.std.proofs.Common.{sym, subst}
use Rattle.at_most_once.specs.AtMostOne.{IsAllowed}
use Rattle.test_part_calls.proofs.tracked.TrackedVariables.add.Goals as goal

pub invariant_of-self : goal.invariant_of-self
invariant_of-self g c =
    c.add.ensures.at_most_one c.self.invariant
    (subst (λ t. IsAllowed g.V.PartialEq.eq t.0 c.args.helper c.args.variable) (sym c.self.view_is) c.requires)
