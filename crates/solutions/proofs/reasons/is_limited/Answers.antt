use Rattle.std.proofs.Common.{◌∙◌, ap, subst, sym}
use Rattle.solutions.proofs.Words.{constraints_in, Contains, needs_of}
use Rattle.solutions.proofs.reasons.is_limited.Given.{Over}
use Rattle.solutions.proofs.reasons.is_limited.Goals as goal

pub returns-in-Known : goal.returns-in-Known
returns-in-Known g c = λ yes.
    subst (λ list. Contains list c.args.set)
    (c.deref.ensures.value ∙ ap constraints_in (sym (ap needs_of c.in-Known.is) ∙ c.in_ok-needs.ensures.ok))
    (c.is_constraint.ensures yes)
