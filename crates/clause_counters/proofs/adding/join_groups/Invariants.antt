use Rattle.std.proofs.Common.{◌≡◌, ◌+◌, ℕ, cond, eqb, take}
use Rattle.clause_counters.proofs.Words.{all_members, count, group_at, IsMember, numbers_at, open_count, open_members}
use Rattle.clause_counters.proofs.Words.{vec_capacity, vec_len}
use Rattle.clause_counters.proofs.adding.join_groups.Given as goal

abbrev pub invariant-loop-group : goal.invariant-loop-group
invariant-loop-group g l = record {
  member : IsMember l.members.items l.groups.items;
  lists : (h c : ℕ) → count c (numbers_at l.members.items (group_at l.groups.items h).clauses) ≡
      count c (numbers_at l.fn.members.items (group_at l.fn.groups.items h).clauses)
      + cond (eqb l.clause c) (count h (take l.group-index l.list)) 0;
  all : (c : ℕ) → all_members l.members.items l.groups.items c ≡
      all_members l.fn.members.items l.fn.groups.items c + cond (eqb l.clause c) l.group-index 0;
  counts : (c : ℕ) → open_members l.members.items l.groups.items c ≡
      open_members l.fn.members.items l.fn.groups.items c + cond (eqb l.clause c)
      (open_count l.fn.groups.items (take l.group-index l.list)) 0;
  lefts : (h : ℕ) → (group_at l.groups.items h).left ≡ (group_at l.fn.groups.items h).left;
  as_many : vec_len l.groups ≡ vec_len l.fn.groups;
  len : vec_len l.members ≡ vec_len l.fn.members + l.group-index;
  room : vec_capacity l.members ≡ vec_capacity l.fn.members;
}
