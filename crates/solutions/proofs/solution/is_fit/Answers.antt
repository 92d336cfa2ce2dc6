use Rattle.std.proofs.Common.{◌≡◌, ◌∙◌, false, true, sym, true≢false, rules}
use Rattle.solutions.proofs.DecisionLemmas.{answered, decides_false}
use Rattle.solutions.proofs.solution.is_fit.Goals as goal

pub returns-then-not-branch : goal.returns-then-not-branch
returns-then-not-branch g c =
    let no : c.in_ok-is_allowed.field-0 ≡ false = search rules in
    decides_false (λ fit. true≢false (sym fit.0 ∙ sym c.in_ok-is_allowed.ensures.ok ∙ no))

pub returns : goal.returns
returns g c =
    let yes : c.in_ok-is_allowed.field-0 ≡ true = search rules in
    answered c.are_needs_satisfied.result
    (λ b decides. (λ e. (sym c.in_ok-is_allowed.ensures.ok ∙ yes, decides.0 e), λ fit. decides.1 fit.1))
    c.are_needs_satisfied.ensures
