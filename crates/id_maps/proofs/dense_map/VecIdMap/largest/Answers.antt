use Rattle.std.proofs.Common.{◌≤◌, ◌^◌, length, min, arith, ap, ◌∙◌}
use Rattle.std.proofs.lemmas.List.{take_all, length-take}
use Rattle.typed_ids.specs.TotalMaps.{kept}
use Rattle.id_maps.proofs.Largest.{walk, dense_largest}
use Rattle.id_maps.proofs.dense_map.VecIdMap.largest.Goals as goal

pub returns : goal.returns
returns g c first is =
    let limit = g.K.DenseIndex.limit in
    let default = g.V.DefaultValue.default_value in
    let items = c.args.self.now.items in
    let past : length (kept limit items) ≤ c.loop-index.index =
    grind (arith, length-take (min limit (2 ^ 40)) items, c.loop-index-test.false, c.deref-value-items.ensures.value) in
    rw (
      g.met.V.DefaultValue.only_default first is,
      c.loop-index.invariant
          ∙ ap (walk g.V.Ord.cmp default) (take_all c.loop-index.index (kept limit items) past),
    )
    (dense_largest g.met.V.Ord.total g.K.DenseIndex.index_of g.K.DenseIndex.id_at limit default items
    g.met.K.DenseIndex.round_trip)
