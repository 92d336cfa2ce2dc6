use Rattle.std.proofs.Common.{◌≡◌, take}
use Rattle.solutions.proofs.Words.{All}
use Rattle.solutions.proofs.encoding.Encoder.are_of.Given as goal

abbrev pub invariant-loop-solvable : goal.invariant-loop-solvable
invariant-loop-solvable g l =
    All (λ s. (g.D.Interner.universe l.self.provider.now).solvable_name s ≡ l.name) (take l.solvable-index l.solvables)
