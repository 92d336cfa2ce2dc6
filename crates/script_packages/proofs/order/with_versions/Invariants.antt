use Rattle.std.proofs.Common.{◌≡◌, ◌++◌, drop, map}
use Rattle.script_packages.specs.Order.{with_version}
use Rattle.script_packages.proofs.order.with_versions.Given as goal

abbrev pub invariant-loop-solvable : goal.invariant-loop-solvable
invariant-loop-solvable l =
    l.list.items ++ map (with_version l.pool.solvables) (drop l.solvable-index l.solvables) ≡
    map (with_version l.pool.solvables) l.solvables
