use Rattle.std.proofs.Common.{◌≡◌, ◌++◌, ◌∷◌, [], None, length, sym, subst, ap, ◌∙◌}
use Rattle.std.specs.Map.{lookup}
use Rattle.providers.specs.Requirement.{same_requirement}
use Rattle.providers.specs.RequirementMap.{ArePlaced}
use Rattle.providers.specs.RequirementSlots.{place_in}
use Rattle.providers.proofs.EntryLemmas.{placed-push, placed-same, entry_added, place_added}
use Rattle.providers.proofs.requirement_map.RequirementMap.add_default.Goals as goal

pub invariant_of-self : goal.invariant_of-self
invariant_of-self g c =
    subst (ArePlaced (place_in c.make_room.new.places)) (sym c.make_room.ensures.entries)
    (placed-same (place_in c.self.inside.places) (place_in c.make_room.new.places) c.self.inside.entries.items
    c.make_room.ensures.places c.self.invariant)

pub invariant_of-self-2 : goal.invariant_of-self-2
invariant_of-self-2 g c =
    let es = c.self.inside.entries.items in
    let r = c.args.requirement in
    let none : lookup (same_requirement r) es ≡ None =
    ap (lookup (same_requirement r)) c.self.view_is ∙ c.requires.new in
    subst (ArePlaced (place_in c.put.new.self))
    (sym (c.push_reserved.ensures.items ∙ ap (λ l. l ++ (r, c.default.result) ∷ []) c.make_room.ensures.entries))
    (placed-push (place_in c.self.inside.places) (place_in c.make_room.new.places) (place_in c.put.new.self) es r
    c.default.result c.in_ok-place.place c.in_ok-place.ensures.place c.in_ok-place.ensures.small c.self.invariant
    c.make_room.ensures.places none c.put.ensures)

pub returns-clause-place : goal.returns-clause-place
returns-clause-place g c =
    c.in_ok-place.ensures.place ∙ ap length c.self.view_is
    ∙ sym (place_added c.args.requirement c.args.self.now c.requires.new)

pub returns-clause-ok : goal.returns-clause-ok
returns-clause-ok g c =
    let r = c.args.requirement in
    let es = c.args.self.now in (
      c.default.result,
      c.push_reserved.ensures.items
          ∙ ap (λ l. l ++ (r, c.default.result) ∷ []) (c.make_room.ensures.entries ∙ c.self.view_is)
          ∙ sym (entry_added r es c.default.result c.requires.new),
      rw c.requires.new c.default.ensures,
    )
