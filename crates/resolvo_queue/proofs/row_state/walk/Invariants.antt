use Rattle.std.proofs.Common.{◌≡◌, ◌+◌, ◌≤◌, drop, length}
use Rattle.resolvo_queue.proofs.Words.{counted, list_rows, values_in, with_rows}
use Rattle.resolvo_queue.proofs.row_state.walk.Given as goal

-- the rows that are left lead to what all rows lead to
abbrev pub invariant-loop-variable : goal.invariant-loop-variable
invariant-loop-variable g l =
    let val = values_in l.decisions in
    record {
      left : with_rows val l.state (list_rows l.set (drop l.variable-index l.list)) ≡
          with_rows val l.fn.state (list_rows l.set l.list);
      few : counted l.state + length (drop l.variable-index l.list) ≤ counted l.fn.state + length l.list;
    }
