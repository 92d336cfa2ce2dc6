use Rattle.std.proofs.Common.{◌≡◌, Some, ◌∙◌, ap, refl, sym}
use Rattle.std.proofs.Math.Path.{fun_ext}
use Rattle.providers.specs.RequirementMap.{with_entry, with_value_at}
use Rattle.providers.proofs.EntryLemmas.{place_within, value_in_place, set_in_place}
use Rattle.providers.proofs.requirement_map.RequirementMap.get_or_insert_with.Goals as goal

pub value_mut-requires : goal.value_mut-requires
value_mut-requires g c =
    let made = c.in_ok-place.ensures.ok in
    rw (c.in_ok-place.ensures.place, made.1) (place_within c.args.requirement c.args.self.now made.0)

pub returns : goal.returns
returns g c =
    let r = c.args.requirement in
    let old = c.args.self.now in
    let made = c.in_ok-place.ensures.ok in
    let writes : (w : g.row.V.Denot) → with_value_at c.place_with.new.self c.in_ok-place.place w ≡ with_entry old r w =
    λ w. rw (made.1, c.in_ok-place.ensures.place) (set_in_place r old made.0 w) in
    let both : Some c.value_mut.result.now ≡ Some made.0 =
    sym c.value_mut.ensures.value ∙ rw (made.1, c.in_ok-place.ensures.place) (value_in_place r old made.0) in
    let value : c.value_mut.result.now ≡ made.0 = cc in (
      ap (λ f. mathlib.Core.Logic.inl (c.value_mut.result.ghost_name, f)) (fun_ext writes),
      record { writes_back = tt; value = rw value made.2; memory = tt; known = λ known. refl },
    )
