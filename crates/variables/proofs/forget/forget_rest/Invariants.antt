use Rattle.std.proofs.Common.{◌≡◌, ◌≤◌, ◌<◌, ◌^◌, take, vec_len}
use Rattle.variables.specs.Variables.{variable_of_solvable}
use Rattle.variables.proofs.forget.forget_rest.Given as goal

abbrev pub invariant-loop-origins : goal.invariant-loop-origins
invariant-loop-origins g l = record {
  agrees : (s : g.row.S.Denot) → g.S.Slots.IdMap.value_at l.slots s
      ≡ variable_of_solvable g.S.PartialEq.eq l.origins.items s;
  within : l.count ≤ vec_len l.origins;
  small : vec_len l.origins < 2 ^ 32;
  kept : take l.count l.origins.items ≡ take l.count l.initial.origins.items;
}

abbrev pub decreases-loop-origins : goal.decreases-loop-origins
decreases-loop-origins g l = vec_len l.origins
