use Rattle.std.proofs.Common.{◌≡◌, ◌∷◌, [], rules}
use Rattle.solutions.proofs.DecisionLemmas.{done}
use Rattle.solutions.proofs.clauses.Theory.add_unit.Goals as goal

pub returns : goal.returns
returns g c =
    let same : c.push.new.self.items ≡ c.args.literal ∷ [] = search rules in
    done c.add.result (λ added. record { clause = c.push.new.self; is = same; added = added }) c.add.ensures
