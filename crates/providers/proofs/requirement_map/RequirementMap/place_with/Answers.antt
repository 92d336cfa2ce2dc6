use Rattle.std.proofs.Common.{◌≡◌, Some, None, is_some, true≢false, sym, subst, ap, ◌∙◌, refl}
use Rattle.id_storage.specs.StoredAnswers.{place_of}
use Rattle.id_storage.proofs.AnswerLemmas.{no_answer, some_answer}
use Rattle.providers.specs.Requirement.{same_requirement}
use Rattle.providers.proofs.EntryLemmas.{place_at, kept_entry}
use Rattle.providers.proofs.requirement_map.RequirementMap.place_with.Goals as goal

pub returns-in-Some-clause-place : goal.returns-in-Some-clause-place
returns-in-Some-clause-place g c =
    sym (place_at c.args.requirement c.args.self.now c.in-Some.place (sym c.place.ensures.place ∙ c.in-Some.is))

pub returns-in-Some-clause-ok : goal.returns-in-Some-clause-ok
returns-in-Some-clause-ok g c =
    let r = c.args.requirement in
    let es = c.args.self.now in
    let at : place_of same_requirement es r ≡ Some c.in-Some.place = sym c.place.ensures.place ∙ c.in-Some.is in
    kept_entry r es _ (sym (some_answer same_requirement es r c.in-Some.place at))

pub add_default-requires : goal.add_default-requires
add_default-requires g c =
    let none = no_answer same_requirement c.args.self.now c.args.requirement
    (sym c.place.ensures.place ∙ c.in-None.is) in
    record { new = none; callable = (rw none at c.requires) refl }

pub returns-in-None-clause-known : goal.returns-in-None-clause-known
returns-in-None-clause-known g c = λ known.
    let none = no_answer same_requirement c.args.self.now c.args.requirement
    (sym c.place.ensures.place ∙ c.in-None.is) in
    absurd (true≢false (sym known ∙ ap is_some none))
