use Rattle.std.proofs.Common.{◌≡◌, ◌<◌, Some, None, sym, subst, ap, ◌∙◌, refl}
use Rattle.id_storage.specs.StoredAnswers.{place_of}
use Rattle.id_storage.proofs.AnswerLemmas.{no_answer}
use Rattle.providers.specs.Requirement.{same_requirement}
use Rattle.providers.proofs.EntryLemmas.{within, written, value_at, nothing_written}
use Rattle.providers.proofs.requirement_map.RequirementMap.get_mut.Goals as goal

pub value_mut-requires : goal.value_mut-requires
value_mut-requires g c =
    within c.args.requirement c.args.self.now c.in-Some.place (sym c.place.ensures.place ∙ c.in-Some.is)

pub returns-in-Some : goal.returns-in-Some
returns-in-Some g c =
    let r = c.args.requirement in
    let es = c.args.self.now in
    let at : place_of same_requirement es r ≡ Some c.in-Some.place = sym c.place.ensures.place ∙ c.in-Some.is in (
      (refl, λ w. written r es c.in-Some.place at w, refl),
      record { writes_back = tt; value = sym c.value_mut.ensures.value ∙ value_at r es c.in-Some.place at },
    )

pub returns-in-None : goal.returns-in-None
returns-in-None g c =
    let r = c.args.requirement in
    let es = c.args.self.now in
    let none = no_answer same_requirement es r (sym c.place.ensures.place ∙ c.in-None.is) in (
      (refl, λ w. sym (nothing_written r es w none), refl),
      record { writes_back = tt; value = sym none },
    )
