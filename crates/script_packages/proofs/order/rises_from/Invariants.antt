use Rattle.std.proofs.Common.{◌≡◌, drop}
use Rattle.script_packages.proofs.Words.{rises_from}
use Rattle.script_packages.proofs.order.rises_from.Given as goal

abbrev pub invariant-loop-solvable : goal.invariant-loop-solvable
invariant-loop-solvable l =
    rises_from l.pool.solvables l.before (drop l.solvable-index l.solvables) ≡
    rises_from l.pool.solvables l.version l.solvables
