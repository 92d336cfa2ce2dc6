use Rattle.std.proofs.Common.{◌≡◌, ◌++◌, ◌+◌, ◌≤◌, map, take, length}
use Rattle.clause_counters.proofs.Words.{Pos, vec_capacity, vec_len}
use Rattle.clause_counters.proofs.rows.append_positive.Given as goal

abbrev pub invariant-loop-variable : goal.invariant-loop-variable
invariant-loop-variable g l = record {
  items : l.literals.items ≡ l.fn.literals.items ++ map Pos (take l.variable-index l.variables);
  len : vec_len l.literals ≡ vec_len l.fn.literals + l.variable-index;
  room : vec_len l.fn.literals + length l.variables ≤ vec_capacity l.literals;
}
