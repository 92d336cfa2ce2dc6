use Rattle.providers.proofs.SlotLemmas.{all_none}
use Rattle.providers.proofs.requirement_slots.RequirementSlots.new.Goals as goal

pub returns : goal.returns
returns g c = λ requirement. all_none c.new.result.items c.new-2.result.items c.new.ensures c.new-2.ensures requirement
