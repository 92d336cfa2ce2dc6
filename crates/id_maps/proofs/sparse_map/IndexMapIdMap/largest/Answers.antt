use Rattle.std.proofs.Common.{◌≡◌, [], rules, sym, ap}
use Rattle.std.specs.Map.{values_of}
use Rattle.id_maps.proofs.Largest.{walk, sparse_largest}
use Rattle.id_maps.proofs.sparse_map.IndexMapIdMap.largest.Goals as goal

pub returns : goal.returns
returns g c first is =
    let over : c.loop-value.value-iterator ≡ [] = search rules in
    let ended : c.loop-value.largest ≡ walk g.V.Ord.cmp c.loop-value.largest (values_of c.loop-value.value-iterator) =
    sym (ap (λ left. walk g.V.Ord.cmp c.loop-value.largest (values_of left)) over) in
    rw (g.met.V.DefaultValue.only_default first is, ended, c.loop-value.invariant)
    (sparse_largest g.met.V.Ord.total g.met.K.Eq.laws g.V.DefaultValue.default_value c.args.self.now.entries
    (search rules))
