use Rattle.solutions.proofs.DecisionLemmas.{done}
use Rattle.solutions.proofs.ReplayLemmas.{replayed_clause}
use Rattle.solutions.proofs.refuting.Replay.add_opposites.Goals as goal

pub returns : goal.returns
returns g c =
    done c.add.result
    (λ is. replayed_clause c.args.self.now.theory.clauses.items c.add.new.self.clauses.items
    c.args.self.now.trail.literals.items c.args.literals.now c.in_ok-clause.clause is c.in_ok-clause.ensures
    c.requires)
    c.add.ensures
