use Rattle.std.proofs.Common.{◌≡◌, true, map, take}
use Rattle.solutions.proofs.Words.{All, IsDistinct, list_any}
use Rattle.solutions.proofs.solution.are_of_different_packages.Given as goal

abbrev pub invariant-loop-solvable : goal.invariant-loop-solvable
invariant-loop-solvable g l =
    let universe = g.D.Interner.universe l.provider in
    let same = g.D.NameId.PartialEq.eq in
    let done = take l.solvable-index l.solvables in
    record {
      known : All (λ s. universe.knows_solvable s ≡ true) done;
      kept : (n : g.row.D-NameId.Denot) → g.D.NameId.Set.IdSet.has l.names n
          ≡ list_any (same n) (map universe.solvable_name done);
      distinct : IsDistinct same (map universe.solvable_name done);
    }
