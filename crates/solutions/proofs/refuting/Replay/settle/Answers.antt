use Rattle.std.proofs.Common.{◌≡◌, true, rules}
use Rattle.solutions.proofs.SettledLemmas.{settled_by}
use Rattle.solutions.proofs.refuting.Replay.settle.Goals as goal

pub returns : goal.returns
returns g c = λ e.
    let old = c.args.self.now in
    let between = c.is_at_least.new.self in
    let now = c.assume_at.new.self in
    let yes : c.in_ok-is_at_least.field-0 ≡ true = search rules in
    settled_by old.theory.clauses.items old.trail.literals.items between.theory.clauses.items
    between.trail.literals.items
    now.theory.clauses.items now.trail.literals.items c.args.literals.now c.args.rank
    (c.in_ok-is_at_least.ensures.at_least yes) c.in_ok-is_at_least.ensures.replayed c.in_ok-assume_at.ensures
