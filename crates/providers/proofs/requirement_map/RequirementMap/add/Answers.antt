use Rattle.std.proofs.Common.{◌≡◌, ◌++◌, ◌∷◌, [], None, sym, subst, ap, ◌∙◌}
use Rattle.std.specs.Map.{lookup}
use Rattle.providers.specs.Requirement.{same_requirement}
use Rattle.providers.specs.RequirementMap.{ArePlaced}
use Rattle.providers.specs.RequirementSlots.{place_in}
use Rattle.providers.proofs.EntryLemmas.{placed-push, placed-same, entry_added}
use Rattle.providers.proofs.requirement_map.RequirementMap.add.Goals as goal

pub invariant_of-self : goal.invariant_of-self
invariant_of-self g c =
    let es = c.self.inside.entries.items in
    let r = c.args.requirement in
    let none : lookup (same_requirement r) es ≡ None = ap (lookup (same_requirement r)) c.self.view_is ∙ c.requires in
    subst (ArePlaced (place_in c.put.new.self))
    (sym (c.push_reserved.ensures.items ∙ ap (λ l. l ++ (r, c.args.value) ∷ []) c.make_room.ensures.entries))
    (placed-push (place_in c.self.inside.places) (place_in c.make_room.new.places) (place_in c.put.new.self) es r
    c.args.value c.in-Ok.place c.in-Ok.ensures.place c.in-Ok.ensures.small c.self.invariant
    c.make_room.ensures.places none c.put.ensures)

pub invariant_of-self-in-Err : goal.invariant_of-self-in-Err
invariant_of-self-in-Err g c =
    subst (ArePlaced (place_in c.make_room.new.places)) (sym c.make_room.ensures.entries)
    (placed-same (place_in c.self.inside.places) (place_in c.make_room.new.places) c.self.inside.entries.items
    c.make_room.ensures.places c.self.invariant)

pub returns-in-Ok-clause-ok : goal.returns-in-Ok-clause-ok
returns-in-Ok-clause-ok g c =
    c.push_reserved.ensures.items
    ∙ ap (λ l. l ++ (c.args.requirement, c.args.value) ∷ []) (c.make_room.ensures.entries ∙ c.self.view_is)
    ∙ sym (entry_added c.args.requirement c.args.self.now c.args.value c.requires)
