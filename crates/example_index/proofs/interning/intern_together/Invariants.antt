use Rattle.std.proofs.Common.{◌≡◌, ◌<◌, [], ◌∷◌, length, map, take}
use Rattle.example_index.proofs.Words.{IsCondition, IsLater, plain_set, with_bytes}
use Rattle.example_index.proofs.interning.intern_together.Given as goal

-- the sets so far hold
abbrev pub invariant-loop-set : goal.invariant-loop-set
invariant-loop-set l = record {
  is : IsCondition (with_bytes l.pool) l.condition
      ((plain_set l.sets.first ∷ map plain_set (take l.set-index l.sets.others.items)) ∷ []);
  here : l.condition < length l.pool.conditions;
  later : IsLater l.fn.pool l.pool;
  solvables : l.pool.solvables ≡ l.fn.pool.solvables;
}
