use Rattle.std.proofs.Common.{false, refl}
use Rattle.solutions.proofs.DecisionLemmas.{answered}
use Rattle.solutions.proofs.ReplayLemmas.{replayed_by, replayed_then}
use Rattle.solutions.proofs.refuting.Replay.learn.Goals as goal

pub returns : goal.returns
returns g c =
    let clauses = c.add_opposites.new.self.theory.clauses.items in
    let trail = c.add_opposites.new.self.trail.literals.items in
    answered c.propagate_clause.result
    (λ answer follows. replayed_then c.args.self.now.theory.clauses.items c.args.self.now.trail.literals.items
    clauses trail clauses c.propagate_clause.new.trail.literals.items false answer c.in_ok-add_opposites.ensures
    (replayed_by clauses c.rules.result.clauses.now trail c.propagate_clause.new.trail.literals.items answer answer
    refl c.rules.ensures follows))
    c.propagate_clause.ensures
