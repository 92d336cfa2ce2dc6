use Rattle.std.proofs.Common.{◌≡◌, ◌+◌, ◌≤◌, ◌^◌, ◌*◌, length, map, sum}
use Rattle.test_part_calls.proofs.arena_callers.total.Given as goal

-- the sum so far, and that of the values that are left, are the whole sum
abbrev pub invariant-loop-value : goal.invariant-loop-value
invariant-loop-value g l = record {
  whole : l.total + sum (map (λ pair. pair.1) l.value-iterator) ≡ sum l.arena;
  fits : l.total ≤ 65535 * length l.yielded;
  few : length l.yielded + length l.value-iterator ≤ 2 ^ 40;
}
