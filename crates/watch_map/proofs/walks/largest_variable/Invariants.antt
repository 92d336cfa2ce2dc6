use Rattle.std.proofs.Common.{◌≡◌, ◌-◌, ◌<◌, ◌^◌, take}
use Rattle.watch_map.proofs.Words.{largest_variable}
use Rattle.watch_map.proofs.walks.largest_variable.Given as goal

abbrev pub invariant-loop-clause : goal.invariant-loop-clause
invariant-loop-clause l = record {
  largest : l.largest ≡ largest_variable (take l.clause-index l.clauses);
  below : l.largest < 2 ^ 31 - 1;
}
