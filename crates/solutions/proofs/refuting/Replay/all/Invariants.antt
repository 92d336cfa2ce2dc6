use Rattle.std.proofs.Common.{false}
use Rattle.solutions.proofs.Words.{Replayed}
use Rattle.solutions.proofs.refuting.Replay.all.Given as goal

abbrev pub invariant-loop-package_literals : goal.invariant-loop-package_literals
invariant-loop-package_literals g l =
    Replayed l.fn.self.theory.clauses.items l.fn.self.trail.literals.items l.self.theory.clauses.items
    l.self.trail.literals.items false
