use Rattle.std.proofs.Common.{◌≡◌, ◌<◌, length, Some, None, sym, subst, ap, ◌∙◌}
use Rattle.std.specs.Map.{lookup}
use Rattle.id_storage.specs.StoredAnswers.{place_of}
use Rattle.id_storage.proofs.AnswerLemmas.{no_answer}
use Rattle.providers.specs.Requirement.{same_requirement}
use Rattle.providers.proofs.EntryLemmas.{within, found}
use Rattle.providers.proofs.requirement_map.RequirementMap.get.Goals as goal

pub index-requires : goal.index-requires
index-requires g c =
    let r = c.args.requirement in
    let es = c.self.inside.entries.items in
    let at : place_of same_requirement es r ≡ Some c.in-Some.place =
    ap (λ now. place_of same_requirement now r) c.self.view_is ∙ sym c.place.ensures.place ∙ c.in-Some.is in
    subst (λ n. c.in-Some.place < n) (sym c.self.inside.entries.ok.0) (within r es c.in-Some.place at)

pub returns-in-Some : goal.returns-in-Some
returns-in-Some g c =
    let r = c.args.requirement in
    let es = c.self.inside.entries.items in
    let at : place_of same_requirement es r ≡ Some c.in-Some.place =
    ap (λ now. place_of same_requirement now r) c.self.view_is ∙ sym c.place.ensures.place ∙ c.in-Some.is in
    sym (ap (lookup (same_requirement r)) (sym c.self.view_is)
    ∙ found r es c.in-Some.place at c.index.result.now c.index.ensures)

pub returns-in-None : goal.returns-in-None
returns-in-None g c =
    let r = c.args.requirement in
    sym (no_answer same_requirement c.args.self.now r (sym c.place.ensures.place ∙ c.in-None.is))
