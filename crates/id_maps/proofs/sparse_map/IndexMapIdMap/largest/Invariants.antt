use Rattle.std.proofs.Common.{◌≡◌}
use Rattle.std.specs.Map.{values_of}
use Rattle.id_maps.proofs.Largest.{walk}
use Rattle.id_maps.proofs.sparse_map.IndexMapIdMap.largest.Given as goal

-- what is left to go through leads to the same as all values do from the default
abbrev pub invariant-loop-value : goal.invariant-loop-value
invariant-loop-value g l =
    walk g.V.Ord.cmp l.largest (values_of l.value-iterator)
    ≡ walk g.V.Ord.cmp g.V.DefaultValue.default_value (values_of l.self.entries)
