use Rattle.solutions.proofs.SettledLemmas.{stays_assumed}
use Rattle.solutions.proofs.refuting.Replay.assume.Goals as goal

pub returns : goal.returns
returns g c =
    stays_assumed c.args.literal c.args.self.now.theory.clauses.items c.add_unit.new.self.clauses.items
    c.rules.result.clauses.now
    c.args.self.now.trail.literals.items c.propagate_clause.new.trail.literals.items c.in_ok-propagate_clause.field-0
    c.in_ok-add_unit.ensures c.rules.ensures c.in_ok-propagate_clause.ensures
