use Rattle.std.proofs.Common.{◌≡◌, length, map, take}
use Rattle.script_packages.proofs.order.put.Given as goal

abbrev pub invariant-loop-i : goal.invariant-loop-i
invariant-loop-i l =
    (length l.solvables ≡ length l.list) × (take l.i l.solvables ≡ take l.i (map (λ v. v.solvable) l.list))
