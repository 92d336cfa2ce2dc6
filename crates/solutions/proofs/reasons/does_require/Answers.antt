use Rattle.std.proofs.Common.{◌∙◌, ap, subst, sym}
use Rattle.solutions.proofs.Words.{Contains, needs_of, requirements_in}
use Rattle.solutions.proofs.reasons.does_require.Given.{Over}
use Rattle.solutions.proofs.reasons.does_require.Goals as goal

pub returns-in-Known : goal.returns-in-Known
returns-in-Known g c = λ yes.
    subst (λ list. Contains list c.args.conditional)
    (c.deref.ensures.value ∙ ap requirements_in (sym (ap needs_of c.in-Known.is) ∙ c.in_ok-needs.ensures.ok))
    (c.is_listed.ensures yes)
