use Rattle.std.proofs.Common.{◌≡◌, length}
use Rattle.id_maps.proofs.Changed.{Changed}
use Rattle.id_maps.proofs.sparse_map.IndexMapIdMap.update_all.Given as goal

-- the values of the entries before the index are changed
abbrev pub invariant-loop-index : goal.invariant-loop-index
invariant-loop-index g l = record {
  changed : Changed (goal.F-post g l.f) l.index l.initial.self.entries l.self.entries;
  len : length l.self.entries ≡ length l.initial.self.entries;
}
