use Rattle.std.proofs.Common.{◌∙◌}
use Rattle.id_storage.proofs.MappingLemmas.{tail_of_tail, head_of_tail, pairs_past_empty}
use Rattle.id_storage.proofs.mapping_iter.MappingIterIterator.next.Goals as goal

pub from_index-requires : goal.from_index-requires
from_index-requires g c = head_of_tail _ _ _ _ _ _ c.in-Some.ensures.cases.0 c.in-Some-slot.is
    c.loop-slot.invariant.tail

pub invariant_of-self : goal.invariant_of-self
invariant_of-self g c = tail_of_tail _ _ _ _ _ c.in-Some.ensures.cases.0 c.loop-slot.invariant.tail

pub loop-slot-preserved : goal.loop-slot-preserved
loop-slot-preserved g c = record {
  tail = tail_of_tail _ _ _ _ _ c.in-Some.ensures.cases.0 c.loop-slot.invariant.tail;
  left = pairs_past_empty _ _ _ _ _ c.in-Some.ensures.cases.0 c.in_default-slot.is ∙ c.loop-slot.invariant.left;
}
