use Rattle.std.proofs.Common.{◌≡◌, length}
use Rattle.id_storage.specs.Mapping.{pairs_from, IsTail}
use Rattle.id_storage.proofs.mapping_iter.MappingIterIterator.next.Given as goal

-- only empty slots were passed over
abbrev pub invariant-loop-slot : goal.invariant-loop-slot
invariant-loop-slot g l = record {
  tail : IsTail g.TId.DenseIndex.limit l.self-inside.index l.self-inside.slots.now;
  left : pairs_from g.TId.DenseIndex.id_at l.self-inside.index l.self-inside.slots.now ≡ l.fn.self;
}

abbrev pub decreases-loop-slot : goal.decreases-loop-slot
decreases-loop-slot g l = length l.self-inside.slots.now
