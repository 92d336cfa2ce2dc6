use Rattle.std.proofs.Common.{◌≡◌, length, ltb-true, sym}
use Rattle.solutions.proofs.Words.{first_true}
use Rattle.solutions.proofs.DecisionLemmas.{done}
use Rattle.solutions.proofs.SettledLemmas.{stays_at, stays_none}
use Rattle.solutions.proofs.refuting.Replay.assume_at.Goals as goal

pub returns-in-Some : goal.returns-in-Some
returns-in-Some g c =
    let literals = c.args.literals.now in
    let place = c.args.place in
    done c.assume.result
    (stays_at c.args.self.now.theory.clauses.items c.args.self.now.trail.literals.items
    c.assume.new.self.theory.clauses.items
    c.assume.new.self.trail.literals.items literals place c.in-Some.literal.now
    (ltb-true place (length literals) (sym c.in-Some.ensures.lookup.0)) c.in-Some.ensures.lookup.1)
    c.assume.ensures

pub returns-in-None : goal.returns-in-None
returns-in-None g c =
    stays_none (λ holds. first_true holds c.args.literals.now ≡ c.args.place) c.args.self.now.theory.clauses.items
    c.args.self.now.trail.literals.items
