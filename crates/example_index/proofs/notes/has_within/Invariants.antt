use Rattle.std.proofs.Common.{◌≡◌, drop}
use Rattle.example_index.proofs.Words.{has_within, here, of_name}
use Rattle.example_index.proofs.notes.has_within.Given as goal

-- no version so far is within
abbrev pub invariant-loop-solvable : goal.invariant-loop-solvable
invariant-loop-solvable l =
    has_within l.pool l.range (of_name l.pool l.name (here l.pool (drop l.solvable-index l.solvables)))
    ≡ has_within l.pool l.range (of_name l.pool l.name (here l.pool l.solvables))
