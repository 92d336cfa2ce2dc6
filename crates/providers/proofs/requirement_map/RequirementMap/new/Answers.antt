use Rattle.std.proofs.Common.{◌^◌, sym, subst}
use Rattle.std.specs.Prelude.{⊤}
use Rattle.id_storage.proofs.AnswerLemmas.{none_kept}
use Rattle.providers.specs.Requirement.{same_requirement}
use Rattle.providers.specs.RequirementMap.{ArePlaced}
use Rattle.providers.specs.RequirementSlots.{place_in}
use Rattle.providers.proofs.requirement_map.RequirementMap.new.Goals as goal

pub invariant_of-result : goal.invariant_of-result
invariant_of-result g c =
    subst (ArePlaced (place_in c.new.result)) (sym c.new-2.ensures.items)
    (none_kept same_requirement (λ _. ⊤) (2 ^ 32) (place_in c.new.result) c.new.ensures)
