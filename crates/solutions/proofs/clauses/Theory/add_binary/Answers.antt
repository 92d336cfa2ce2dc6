use Rattle.std.proofs.Common.{◌≡◌, ◌∷◌, [], rules}
use Rattle.solutions.proofs.DecisionLemmas.{done}
use Rattle.solutions.proofs.clauses.Theory.add_binary.Goals as goal

pub returns : goal.returns
returns g c =
    let same : c.push-2.new.self.items ≡ c.args.one ∷ c.args.other ∷ [] = search rules in
    done c.add.result (λ added. record { clause = c.push-2.new.self; is = same; added = added }) c.add.ensures
