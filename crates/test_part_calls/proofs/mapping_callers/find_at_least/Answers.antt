use Rattle.std.proofs.Common.{◌≡◌, ◌<◌, ℕ, Some, sym, ◌∙◌, arith}
use Rattle.std.proofs.lemmas.List.Elements.{All-same, All-rest, All-cons}
use Rattle.id_storage.specs.Mapping.{value_at}
use Rattle.id_storage.proofs.MappingLemmas.{each_value}
use Rattle.test_part_calls.proofs.mapping_callers.find_at_least.Goals as goal

pub loop-id-init : goal.loop-id-init
loop-id-init g c =
    let begins = c.into_iter-id-iterator.ensures.into_iter_gives in
    let listed = begins ∙ c.iter-id-items.ensures.pairs in
    let is_small = λ (pair : g.row.TId.Denot × ℕ). pair.1 < c.args.least in
    record {
      can = tt;
      ends = tt;
      values = All-same (λ pair. value_at c.args.mapping.now (g.TId.DenseIndex.index_of pair.0) ≡ Some pair.1) _ _
          begins c.iter-id-items.ensures.values;
      small = λ all. each_value is_small g.TId.DenseIndex.id_at c.args.mapping.now
          (All-same is_small _ _ (sym listed) all);
    }

pub loop-id-preserved : goal.loop-id-preserved
loop-id-preserved g c =
    let step = c.in-Some.ensures.steps in
    let is_small = λ (pair : g.row.TId.Denot × ℕ). pair.1 < c.args.least in
    record {
      can = tt;
      ends = tt;
      values = All-rest (λ pair. value_at c.args.mapping.now (g.TId.DenseIndex.index_of pair.0) ≡ Some pair.1) _ _ _
          step c.loop-id.invariant.values;
      small = λ all. c.loop-id.invariant.small (All-same is_small _ _ step (All-cons is_small _ _ (omega arith) all));
    }
