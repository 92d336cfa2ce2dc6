use Rattle.std.proofs.Common.{false}
use Rattle.solutions.proofs.Words.{IsAtLeast, Replayed}
use Rattle.solutions.proofs.refuting.Replay.is_at_least.Given as goal

abbrev pub invariant-loop-place : goal.invariant-loop-place
invariant-loop-place g l =
    record {
      at_least : IsAtLeast l.fn.self.theory.clauses.items l.fn.self.trail.literals.items l.literals l.place;
      replayed : Replayed l.fn.self.theory.clauses.items l.fn.self.trail.literals.items l.self.theory.clauses.items
          l.self.trail.literals.items false;
    }
