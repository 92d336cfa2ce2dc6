use Rattle.std.proofs.Common.{◌≡◌, ◌≤◌, ◌+◌, ℕ, length}
use Rattle.clause_counters.proofs.Words.{clause_lists, count, CountsMembers, group_at, numbers_at}
use Rattle.clause_counters.proofs.walks.lower_groups.Given as goal

abbrev pub invariant-loop-rest : goal.invariant-loop-rest
invariant-loop-rest g l = record {
  within : l.rest ≤ length l.places;
  lefts : (c : ℕ) → (group_at l.groups.items c).left + count c (numbers_at l.places l.list)
      ≡ (group_at l.fn.groups.items c).left + count c (numbers_at l.places l.rest);
  enough : (c : ℕ) → count c (numbers_at l.places l.rest) ≤ (group_at l.groups.items c).left;
  joined : CountsMembers l.members l.groups.items l.falsified.lefts;
  lists : clause_lists l.groups.items ≡ clause_lists l.fn.groups.items;
  firsts : l.falsified.firsts ≡ l.fn.falsified.firsts;
  clauses : length l.falsified.lefts ≡ length l.fn.falsified.lefts;
}

abbrev pub decreases-loop-rest : goal.decreases-loop-rest
decreases-loop-rest g l = l.rest
