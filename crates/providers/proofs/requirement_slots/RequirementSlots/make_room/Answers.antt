use Rattle.std.proofs.Common.{ap, ◌∙◌}
use Rattle.providers.specs.RequirementSlots.{place_in}
use Rattle.providers.proofs.SlotLemmas.{same_sets, same_unions}
use Rattle.providers.proofs.requirement_slots.RequirementSlots.make_room.Goals as goal

pub returns-in-Single-clause-same : goal.returns-in-Single-clause-same
returns-in-Single-clause-same g c =
    let i = c.self.inside in
    λ r. same_sets i.sets.items i.unions.items c.grow.new.table.items c.grow.ensures.same r
    ∙ ap (λ t. place_in t r) c.self.view_is

pub returns-in-Union-clause-same : goal.returns-in-Union-clause-same
returns-in-Union-clause-same g c =
    let i = c.self.inside in
    λ r. same_unions i.sets.items i.unions.items c.grow-in-Union.new.table.items c.grow-in-Union.ensures.same r
    ∙ ap (λ t. place_in t r) c.self.view_is
