use Rattle.std.proofs.Common.{◌≡◌, ◌≤◌, ◌+◌, ◌-◌, length, take, false, vec_len, vec_capacity}
use Rattle.std.specs.List.{list_any}
use Rattle.variables.specs.Variables.{with_variables}
use Rattle.variables.proofs.InterningLemmas.{variables_in_turn}
use Rattle.variables.proofs.lists.intern_list.Given as goal

abbrev pub invariant-loop-solvable : goal.invariant-loop-solvable
invariant-loop-solvable g l =
    let same = g.S.PartialEq.eq in
    let done = take l.solvable-index l.solvables in
    record {
      room : vec_len l.list + (length l.solvables - l.solvable-index) ≤ vec_capacity l.list;
      list : l.list.items ≡ variables_in_turn same l.initial.variables done;
      fit : list_any g.S.Slots.IdMap.is_too_large done ≡ false;
      done : l.variables ≡ with_variables same l.initial.variables done;
    }
