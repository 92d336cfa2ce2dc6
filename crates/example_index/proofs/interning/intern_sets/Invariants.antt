use Rattle.std.proofs.Common.{◌≡◌, map, take}
use Rattle.example_index.proofs.Words.{AllZip, IsLater, IsSet, plain_set, with_bytes}
use Rattle.example_index.proofs.interning.intern_sets.Given as goal

-- the sets so far
abbrev pub invariant-loop-set : goal.invariant-loop-set
invariant-loop-set l = record {
  sets : AllZip (IsSet (with_bytes l.pool)) l.ids.items (map plain_set (take l.set-index l.sets));
  later : IsLater l.fn.pool l.pool;
  solvables : l.pool.solvables ≡ l.fn.pool.solvables;
}
