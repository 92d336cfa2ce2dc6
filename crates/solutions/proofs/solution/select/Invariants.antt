use Rattle.std.proofs.Common.{◌≡◌, take}
use Rattle.solutions.proofs.Words.{list_any}
use Rattle.solutions.proofs.solution.select.Given as goal

abbrev pub invariant-loop-solvable : goal.invariant-loop-solvable
invariant-loop-solvable g l =
    (s : g.row.D-SolvableId.Denot) → g.D.SolvableId.Set.IdSet.has l.picked s
    ≡ list_any (g.D.SolvableId.PartialEq.eq s) (take l.solvable-index l.solvables)
