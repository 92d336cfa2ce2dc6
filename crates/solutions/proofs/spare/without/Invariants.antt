use Rattle.std.proofs.Common.{◌≡◌, ◌++◌, Bool, List, drop, not}
use Rattle.solutions.proofs.Words.{filter}
use Rattle.solutions.proofs.spare.without.Given as goal

-- the solvables but for one, by the equality of their type
abbrev pub others : {S : Type 0} → (S → S → Bool) → S → List S → List S
others same left_out solvables = filter (λ s. not (same s left_out)) solvables

abbrev pub invariant-loop-solvable : goal.invariant-loop-solvable
invariant-loop-solvable g l =
    l.rest.items ++ others g.S.PartialEq.eq l.left_out (drop l.solvable-index l.solvables)
    ≡ others g.S.PartialEq.eq l.left_out l.solvables
