use Rattle.std.proofs.Common.{◌≡◌, ◌+◌, ◌<◌, ◌^◌, drop, length, map}
use Rattle.std.specs.Prelude.{flat_map}
use Rattle.resolvo_queue.proofs.Words.{AllFalse, counted, rows, values_in, with_rows}
use Rattle.resolvo_queue.proofs.row_state.rows_state.Given as goal

-- the rows that are left lead to what all rows lead to
abbrev pub invariant-loop-list : goal.invariant-loop-list
invariant-loop-list g l =
    let val = values_in l.decisions in
    let behind = drop l.list-index l.lists in
    record {
      left : with_rows val l.state (rows l.left (map (λ c. c.items) behind)) ≡
          with_rows val AllFalse (rows l.sets (map (λ c. c.items) l.lists));
      few : counted l.state + length (flat_map (λ c. c.items) behind) < 2 ^ 40;
    }
