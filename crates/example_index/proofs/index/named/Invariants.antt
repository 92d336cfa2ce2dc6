use Rattle.std.proofs.Common.{◌≡◌, ◌++◌, drop}
use Rattle.example_index.proofs.Words.{here, of_name}
use Rattle.example_index.proofs.index.named.Given as goal

abbrev pub invariant-loop-solvable : goal.invariant-loop-solvable
invariant-loop-solvable l =
    l.found.items ++ of_name l.pool l.name (here l.pool (drop l.solvable-index l.solvables)) ≡ of_name l.pool l.name
    (here l.pool l.solvables)
