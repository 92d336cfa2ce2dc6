use Rattle.std.proofs.Common.{◌≡◌, ◌<◌, length, Some, None, sym, subst, ap, ◌∙◌}
use Rattle.id_storage.specs.StoredAnswers.{place_of}
use Rattle.providers.specs.Requirement.{same_requirement}
use Rattle.providers.proofs.EntryLemmas.{within}
use Rattle.providers.proofs.requirement_map.RequirementMap.place.Goals as goal

pub returns-in-Some-clause-place : goal.returns-in-Some-clause-place
returns-in-Some-clause-place g c =
    let r = c.args.requirement in
    sym c.in-Some.is ∙ c.place.ensures ∙ c.self.invariant.agrees r
    ∙ ap (λ es. place_of same_requirement es r) c.self.view_is

pub returns-in-Some-clause-within : goal.returns-in-Some-clause-within
returns-in-Some-clause-within g c =
    let r = c.args.requirement in
    let es = c.self.inside.entries.items in
    let at : place_of same_requirement es r ≡ Some c.in-Some.place =
    sym (c.self.invariant.agrees r) ∙ sym c.place.ensures ∙ c.in-Some.is in
    subst (λ now. c.in-Some.place < length now) c.self.view_is (within r es c.in-Some.place at)

pub returns-in-None-clause-place : goal.returns-in-None-clause-place
returns-in-None-clause-place g c =
    let r = c.args.requirement in
    sym c.in-None.is ∙ c.place.ensures ∙ c.self.invariant.agrees r
    ∙ ap (λ es. place_of same_requirement es r) c.self.view_is
