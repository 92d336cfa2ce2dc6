use Rattle.std.proofs.Common.{◌≡◌, ◌<◌, ◌∷◌, length, map, take}
use Rattle.example_index.proofs.Words.{IsCondition, IsLater, plain_sets, with_bytes}
use Rattle.example_index.proofs.interning.intern_alternatives.Given as goal

-- the sets of one of the lists so far hold
abbrev pub invariant-loop-sets : goal.invariant-loop-sets
invariant-loop-sets l = record {
  is : IsCondition (with_bytes l.pool) l.condition (plain_sets l.first ∷ map plain_sets (take l.sets-index l.others));
  here : l.condition < length l.pool.conditions;
  later : IsLater l.fn.pool l.pool;
  solvables : l.pool.solvables ≡ l.fn.pool.solvables;
}
