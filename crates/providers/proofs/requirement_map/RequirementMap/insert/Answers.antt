use Rattle.std.proofs.Common.{◌≡◌, Some, None, is_some, true≢false, sym, ap, ◌∙◌}
use Rattle.id_storage.specs.StoredAnswers.{place_of}
use Rattle.id_storage.proofs.AnswerLemmas.{no_answer, some_answer}
use Rattle.providers.specs.Requirement.{same_requirement}
use Rattle.providers.specs.RequirementMap.{with_value_at}
use Rattle.providers.proofs.EntryLemmas.{within, written, value_at, entry_replaced}
use Rattle.providers.proofs.requirement_map.RequirementMap.insert.Goals as goal

pub value_mut-requires : goal.value_mut-requires
value_mut-requires g c =
    within c.args.requirement c.args.self.now c.in-Some.place (sym c.place.ensures.place ∙ c.in-Some.is)

pub returns-in-Some-clause-earlier : goal.returns-in-Some-clause-earlier
returns-in-Some-clause-earlier g c =
    let at = sym c.place.ensures.place ∙ c.in-Some.is in
    ap Some c.replace.ensures.value ∙ sym c.value_mut.ensures.value
    ∙ value_at c.args.requirement c.args.self.now c.in-Some.place at

pub returns-in-Some-clause-ok : goal.returns-in-Some-clause-ok
returns-in-Some-clause-ok g c =
    let r = c.args.requirement in
    let es = c.args.self.now in
    let at : place_of same_requirement es r ≡ Some c.in-Some.place = sym c.place.ensures.place ∙ c.in-Some.is in
    ap (with_value_at es c.in-Some.place) c.replace.ensures.after ∙ written r es c.in-Some.place at c.args.value
    ∙ sym (entry_replaced r es c.args.value (sym (some_answer same_requirement es r c.in-Some.place at)))

pub add-requires : goal.add-requires
add-requires g c =
    no_answer same_requirement c.args.self.now c.args.requirement (sym c.place.ensures.place ∙ c.in-None.is)

pub returns-in-None-clause-known : goal.returns-in-None-clause-known
returns-in-None-clause-known g c = λ known.
    let none = no_answer same_requirement c.args.self.now c.args.requirement
    (sym c.place.ensures.place ∙ c.in-None.is) in
    absurd (true≢false (sym known ∙ ap is_some none))
