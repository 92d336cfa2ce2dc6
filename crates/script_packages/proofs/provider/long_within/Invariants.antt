use Rattle.std.proofs.Common.{◌≡◌, ◌++◌, drop}
use Rattle.script_packages.proofs.Words.{filtered}
use Rattle.script_packages.proofs.Ranges.{holds}
use Rattle.script_packages.proofs.provider.long_within.Given as goal

abbrev pub invariant-loop-solvable : goal.invariant-loop-solvable
invariant-loop-solvable l =
    l.found.items ++ filtered (holds l.range l.pool.solvables) l.inverse (drop l.solvable-index l.candidates) ≡
    filtered (holds l.range l.pool.solvables) l.inverse l.candidates
