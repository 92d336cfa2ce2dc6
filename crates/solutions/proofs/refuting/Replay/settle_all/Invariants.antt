use Rattle.solutions.proofs.SettledLemmas.{AreSettled}
use Rattle.solutions.proofs.refuting.Replay.settle_all.Given as goal

abbrev pub invariant-loop-place : goal.invariant-loop-place
invariant-loop-place g l =
    AreSettled l.lists l.ranks l.fn.self.theory.clauses.items l.fn.self.trail.literals.items
    l.self.theory.clauses.items l.self.trail.literals.items l.place
