use Rattle.std.proofs.Common.{◌≡◌, None, Some, is_some, sym, ◌∙◌, ap}
use Rattle.id_storage.specs.StoredAnswers.{place_of}
use Rattle.id_storage.proofs.AnswerLemmas.{has_place, place_below, answer_at, some_answer}
use Rattle.id_storage.proofs.stored_answers.StoredAnswers.find.Goals as goal

pub from_index-requires : goal.from_index-requires
from_index-requires g c =
    let same = g.K.PartialEq.eq in
    let kept = c.self.inside.answers in
    let at : place_of same kept c.args.key ≡ Some c.in-Some.index =
    sym (c.self.invariant.agrees c.args.key) ∙ sym c.get.ensures ∙ sym c.number.ensures ∙ c.in-Some.is in
    (place_below same g.K.SolverId.is_id g.I.DenseIndex.limit _ kept c.args.key c.in-Some.index c.self.invariant at).1

pub returns-in-Some-clause-found : goal.returns-in-Some-clause-found
returns-in-Some-clause-found g c =
    let same = g.K.PartialEq.eq in
    let kept = c.self.inside.answers in
    let at : place_of same kept c.args.key ≡ Some c.in-Some.index =
    sym (c.self.invariant.agrees c.args.key) ∙ sym c.get.ensures ∙ sym c.number.ensures ∙ c.in-Some.is in
    rw (sym c.self.view_is) (some_answer same kept c.args.key c.in-Some.index at)

pub returns-in-Some-clause-within : goal.returns-in-Some-clause-within
returns-in-Some-clause-within g c =
    let same = g.K.PartialEq.eq in
    let kept = c.self.inside.answers in
    let at : place_of same kept c.args.key ≡ Some c.in-Some.index =
    sym (c.self.invariant.agrees c.args.key) ∙ sym c.get.ensures ∙ sym c.number.ensures ∙ c.in-Some.is in
    let below = place_below same g.K.SolverId.is_id g.I.DenseIndex.limit _ kept c.args.key c.in-Some.index
    c.self.invariant at in
    rw (c.from_index.ensures, sym c.self.view_is, g.met.I.DenseIndex.round_trip c.in-Some.index below.1) below.0

pub returns-in-Some-clause-answer : goal.returns-in-Some-clause-answer
returns-in-Some-clause-answer g c =
    let same = g.K.PartialEq.eq in
    let kept = c.self.inside.answers in
    let at : place_of same kept c.args.key ≡ Some c.in-Some.index =
    sym (c.self.invariant.agrees c.args.key) ∙ sym c.get.ensures ∙ sym c.number.ensures ∙ c.in-Some.is in
    let below = place_below same g.K.SolverId.is_id g.I.DenseIndex.limit _ kept c.args.key c.in-Some.index
    c.self.invariant at in
    rw (c.from_index.ensures, sym c.self.view_is, g.met.I.DenseIndex.round_trip c.in-Some.index below.1)
    (answer_at same kept c.args.key c.in-Some.index at)

pub returns-in-None-clause-found : goal.returns-in-None-clause-found
returns-in-None-clause-found g c =
    let same = g.K.PartialEq.eq in
    let kept = c.self.inside.answers in
    let none : place_of same kept c.args.key ≡ None =
    sym (c.self.invariant.agrees c.args.key) ∙ sym c.get.ensures ∙ sym c.number.ensures ∙ c.in-None.is in
    rw (sym c.self.view_is) (sym (ap is_some none) ∙ has_place (same c.args.key) 0 kept)
