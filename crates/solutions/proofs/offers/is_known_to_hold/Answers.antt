use Rattle.std.proofs.Common.{◌≡◌, true, rules}
use Rattle.solutions.proofs.DecisionLemmas.{answered}
use Rattle.solutions.proofs.offers.is_known_to_hold.Goals as goal

pub returns : goal.returns
returns g c =
    let known : (g.D.Interner.universe c.args.selection.now.provider.now).knows_condition c.args.condition ≡ true =
    search rules in
    answered c.condition_holds.result (λ b decides. (λ e. (known, decides.0 e), λ both. decides.1 both.1))
    c.condition_holds.ensures.ok
