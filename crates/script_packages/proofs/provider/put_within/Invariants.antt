use Rattle.std.proofs.Common.{◌≡◌, ◌≤◌, ◌++◌, drop, take}
use Rattle.script_packages.proofs.Words.{filtered}
use Rattle.script_packages.proofs.Ranges.{holds}
use Rattle.script_packages.proofs.provider.put_within.Given as goal

abbrev pub invariant-loop-solvable : goal.invariant-loop-solvable
invariant-loop-solvable l = record {
  count : l.count ≤ l.solvable-index;
  listed : take l.count l.places ++ filtered (holds l.range l.pool.solvables) l.inverse
      (drop l.solvable-index l.candidates) ≡
      filtered (holds l.range l.pool.solvables) l.inverse l.candidates;
}
