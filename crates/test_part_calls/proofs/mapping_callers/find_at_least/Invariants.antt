use Rattle.std.proofs.Common.{◌≡◌, ◌<◌, ℕ, All, Some}
use Rattle.std.specs.Option.{ForSome}
use Rattle.id_storage.specs.Mapping.{value_at}
use Rattle.test_part_calls.proofs.mapping_callers.find_at_least.Given as goal

-- the pairs that are left are the map's, and if they are all too small, so is each value
abbrev pub invariant-loop-id : goal.invariant-loop-id
invariant-loop-id g l = record {
  can : (goal.iterator-loop-id g).can_next l.id-iterator;
  ends : (goal.iterator-loop-id g).is_finite l.id-iterator;
  values : All (λ pair. value_at l.mapping (g.TId.DenseIndex.index_of pair.0) ≡ Some pair.1) l.id-iterator;
  small : All (λ pair. pair.1 < l.least) l.id-iterator → (index : ℕ) →
      ForSome (value_at l.mapping index) (λ value. value < l.least);
}
