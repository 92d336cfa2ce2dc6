use Rattle.std.proofs.Common.{ℕ, ◌≤◌, ◌<◌}
use Rattle.clause_counters.proofs.Words.{All, AllWithin, literal_index}
use Rattle.clause_counters.proofs.adding.end_of.Given as goal

abbrev pub invariant-loop-literal : goal.invariant-loop-literal
invariant-loop-literal l = record {
  least : l.len ≤ l.end;
  needed : (n : ℕ) → l.len ≤ n → All (λ x. literal_index x < n) l.list → l.end ≤ n;
  reached : AllWithin (λ x. literal_index x < l.end) l.list 0 l.literal-index;
}
