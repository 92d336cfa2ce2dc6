use Rattle.std.proofs.Common.{ap, ◌∙◌}
use Rattle.providers.specs.declared.requirement.Requirement.TheVariants.{Single, Union}
use Rattle.providers.proofs.SlotLemmas.{tables, put_set, put_union, put_at}
use Rattle.providers.proofs.requirement_slots.RequirementSlots.put.Goals as goal

pub returns-in-Single : goal.returns-in-Single
returns-in-Single g c =
    let i = c.self.inside in
    put_at _ _ (tables c.put.new.self.items i.unions.items) c.args.requirement (Single c.in-Single.set)
    c.new-slot.result c.args.place c.self.view_is c.in-Single.is c.new-slot.ensures
    (put_set i.sets.items i.unions.items c.put.new.self.items c.in-Single.set c.new-slot.result c.put.ensures.put)

pub returns-in-Union : goal.returns-in-Union
returns-in-Union g c =
    let i = c.self.inside in
    put_at _ _ (tables i.sets.items c.put-in-Union.new.self.items) c.args.requirement (Union c.in-Union.union)
    c.new-slot.result c.args.place c.self.view_is c.in-Union.is c.new-slot.ensures
    (put_union i.sets.items i.unions.items c.put-in-Union.new.self.items c.in-Union.union c.new-slot.result
    c.put-in-Union.ensures.put)
