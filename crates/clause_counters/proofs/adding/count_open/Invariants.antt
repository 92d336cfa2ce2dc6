use Rattle.std.proofs.Common.{◌≡◌, ◌≤◌, take}
use Rattle.clause_counters.proofs.Words.{open_count}
use Rattle.clause_counters.proofs.adding.count_open.Given as goal

abbrev pub invariant-loop-group : goal.invariant-loop-group
invariant-loop-group l = record {
  counted : l.left ≡ open_count l.groups (take l.group-index l.list);
  few : l.left ≤ l.group-index;
}
