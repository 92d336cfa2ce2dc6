use Rattle.std.proofs.Common.{◌≡◌, ◌≤◌, ◌+◌, ℕ, length}
use Rattle.clause_counters.proofs.Words.{count, numbers_at, slice_index}
use Rattle.clause_counters.proofs.groups.raise_clauses.Given as goal

abbrev pub invariant-loop-rest : goal.invariant-loop-rest
invariant-loop-rest g l = record {
  within : l.rest ≤ length l.members;
  lefts : (c : ℕ) → slice_index l.falsified.lefts c + count c (numbers_at l.members l.rest)
      ≡ slice_index l.fn.falsified.lefts c + count c (numbers_at l.members l.list);
  known : (c : ℕ) → length l.falsified.lefts ≤ c → count c (numbers_at l.members l.rest) ≡ 0;
  firsts : l.falsified.firsts ≡ l.fn.falsified.firsts;
  clauses : length l.falsified.lefts ≡ length l.fn.falsified.lefts;
}

abbrev pub decreases-loop-rest : goal.decreases-loop-rest
decreases-loop-rest g l = l.rest
