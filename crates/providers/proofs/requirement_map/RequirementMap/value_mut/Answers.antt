use Rattle.std.proofs.Common.{◌≡◌, ◌<◌, length, slice_get, Some, sym, subst, ap, ◌∙◌, refl}
use Rattle.std.proofs.lemmas.Option.{slice_get_read, slice_get-map}
use Rattle.std.specs.Map.{values_of}
use Rattle.std.specs.Option.{option_map}
use Rattle.providers.specs.RequirementMap.{ArePlaced, with_value_at}
use Rattle.providers.specs.RequirementSlots.{place_in}
use Rattle.providers.proofs.EntryLemmas.{value_set, placed-value}
use Rattle.providers.proofs.requirement_map.RequirementMap.value_mut.Goals as goal

pub index_mut-entry-requires : goal.index_mut-entry-requires
index_mut-entry-requires g c =
    subst (λ n. c.args.place < n) (sym c.self.inside.entries.ok.0)
    (subst (λ es. c.args.place < length es) (sym c.self.view_is) c.requires)

pub invariant_of-self-lent : goal.invariant_of-self-lent
invariant_of-self-lent g c w =
    let es = c.self.inside.entries.items in
    let at = slice_get_read es (length es) c.args.place c.index_mut-entry.result.now refl
    (subst (λ now. c.args.place < length now) (sym c.self.view_is) c.requires) c.index_mut-entry.ensures.value in
    subst (ArePlaced (place_in c.self.inside.places))
    (sym (value_set es c.args.place c.index_mut-entry.result.now w at))
    (placed-value (place_in c.self.inside.places) es c.args.place w c.self.invariant)

pub returns : goal.returns
returns g c =
    let es = c.self.inside.entries.items in
    let at = slice_get_read es (length es) c.args.place c.index_mut-entry.result.now refl
    (subst (λ now. c.args.place < length now) (sym c.self.view_is) c.requires) c.index_mut-entry.ensures.value in (
      (
        refl,
        λ w. value_set es c.args.place c.index_mut-entry.result.now w at
            ∙ ap (λ now. with_value_at now c.args.place w) c.self.view_is,
      ),
      record {
        writes_back = tt;
        value = ap (λ now. slice_get (values_of now) c.args.place) (sym c.self.view_is)
            ∙ slice_get-map (λ e. e.1) es c.args.place ∙ ap (option_map (λ e. e.1)) at;
      },
    )
