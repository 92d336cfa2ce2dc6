use Rattle.std.proofs.Common.{◌≡◌, take}
use Rattle.typed_ids.specs.TotalMaps.{kept}
use Rattle.id_maps.proofs.Largest.{walk}
use Rattle.id_maps.proofs.dense_map.VecIdMap.largest.Given as goal

-- so far, what the places before the index lead to
abbrev pub invariant-loop-index : goal.invariant-loop-index
invariant-loop-index g l =
    l.largest ≡ walk g.V.Ord.cmp g.V.DefaultValue.default_value (take l.index (kept g.K.DenseIndex.limit l.self.items))
