use Rattle.std.proofs.Common.{◌≡◌, ◌∙◌, true, sym, rules}
use Rattle.solutions.proofs.DecisionLemmas.{answered}
use Rattle.solutions.proofs.offers.offers.Goals as goal

pub returns : goal.returns
returns g c =
    let yes : c.in_ok-is_offered.field-0 ≡ true = search rules in
    answered c.holds_if_any.result (λ b decides. (
      λ e. (sym c.in_ok-is_offered.ensures ∙ yes, decides.0 e),
      λ both. decides.1 both.1,
    ))
    c.holds_if_any.ensures
