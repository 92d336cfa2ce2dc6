use Rattle.std.proofs.Common.{◌≡◌, length, map, take}
use Rattle.script_packages.specs.Order.{with_version}
use Rattle.script_packages.proofs.order.look_up.Given as goal

abbrev pub invariant-loop-i : goal.invariant-loop-i
invariant-loop-i l =
    (length l.list ≡ length l.solvables)
    × (take l.i l.list ≡ take l.i (map (with_version l.pool.solvables) l.solvables))
