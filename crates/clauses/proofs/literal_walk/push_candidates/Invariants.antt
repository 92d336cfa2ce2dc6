use Rattle.std.proofs.Common.{◌≡◌, ◌++◌, map, take}
use Rattle.decisions.specs.Literals.{Pos}
use Rattle.clauses.proofs.literal_walk.push_candidates.Given as goal

abbrev pub invariant-loop-candidate : goal.invariant-loop-candidate
invariant-loop-candidate g l = l.literals.items ≡ l.fn.literals.items ++ map Pos (take l.candidate-index l.candidates)
