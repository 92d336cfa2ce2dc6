use Rattle.std.proofs.Common.{◌≡◌, ◌∙◌, Some, slice_get, set, sym, subst, ap}
use Rattle.std.specs.Prelude.{is_some, true}
use Rattle.std.specs.Map.{lookup, set_value}
use Rattle.id_storage.specs.StoredAnswers.{AreStored, place_of}
use Rattle.id_storage.proofs.AnswerLemmas.{place_below, answer_replaced, answer_earlier, AreStored-replaced}
use Rattle.id_storage.proofs.AnswerLemmas.{answer_has_place}
use Rattle.id_storage.proofs.stored_answers.StoredAnswers.replace.Goals as goal

pub from_index-id-requires : goal.from_index-id-requires
from_index-id-requires g c =
    let same = g.K.PartialEq.eq in
    let kept = c.self.inside.answers in
    let at : place_of same kept c.args.key ≡ Some c.in-Some.index =
    sym (c.self.invariant.agrees c.args.key) ∙ sym c.get.ensures ∙ sym c.number.ensures ∙ c.in-Some.is in
    (place_below same g.K.SolverId.is_id g.I.DenseIndex.limit _ kept c.args.key c.in-Some.index c.self.invariant at).1

pub index_mut-requires : goal.index_mut-requires
index_mut-requires g c =
    let same = g.K.PartialEq.eq in
    let kept = c.self.inside.answers in
    let at : place_of same kept c.args.key ≡ Some c.in-Some.index =
    sym (c.self.invariant.agrees c.args.key) ∙ sym c.get.ensures ∙ sym c.number.ensures ∙ c.in-Some.is in
    let below = place_below same g.K.SolverId.is_id g.I.DenseIndex.limit _ kept c.args.key c.in-Some.index
    c.self.invariant at in
    rw (c.from_index-id.ensures, g.met.I.DenseIndex.round_trip c.in-Some.index below.1) below.0

pub invariant_of-self : goal.invariant_of-self
invariant_of-self g c =
    let same = g.K.PartialEq.eq in
    let kept = c.self.inside.answers in
    let at : place_of same kept c.args.key ≡ Some c.in-Some.index =
    sym (c.self.invariant.agrees c.args.key) ∙ sym c.get.ensures ∙ sym c.number.ensures ∙ c.in-Some.is in
    let below = place_below same g.K.SolverId.is_id g.I.DenseIndex.limit _ kept c.args.key c.in-Some.index
    c.self.invariant at in
    let place = ap g.I.DenseIndex.index_of c.from_index-id.ensures
    ∙ g.met.I.DenseIndex.round_trip c.in-Some.index below.1 in
    let is : slice_get kept c.in-Some.index ≡ Some c.index_mut.result.now =
    subst (λ n. slice_get kept n ≡ Some c.index_mut.result.now) place c.index_mut.ensures.value in
    subst (λ n. AreStored same g.K.SolverId.is_id g.I.DenseIndex.limit (g.K.Slots.IdMap.value_at c.self.inside.slots)
    (set kept n (c.index_mut.result.now.0, c.replace.new.dest)))
    (sym place)
    (subst (λ now. AreStored same g.K.SolverId.is_id g.I.DenseIndex.limit
    (g.K.Slots.IdMap.value_at c.self.inside.slots) now)
    (sym (answer_replaced same kept c.args.key c.in-Some.index c.index_mut.result.now c.replace.new.dest at is))
    (AreStored-replaced same g.K.SolverId.is_id g.I.DenseIndex.limit _ kept
    (same c.args.key) c.replace.new.dest c.self.invariant))

pub unreachable-requires : goal.unreachable-requires
unreachable-requires g c =
    let same = g.K.PartialEq.eq in
    let kept = c.self.inside.answers in
    answer_has_place same kept c.args.key (subst (λ k. is_some (lookup (same c.args.key) k) ≡ true)
    (sym c.self.view_is) c.requires)
    (sym (c.self.invariant.agrees c.args.key) ∙ sym c.get.ensures ∙ sym c.number.ensures ∙ c.in-None.is)

pub returns-clause-earlier : goal.returns-clause-earlier
returns-clause-earlier g c =
    let same = g.K.PartialEq.eq in
    let kept = c.self.inside.answers in
    let at : place_of same kept c.args.key ≡ Some c.in-Some.index =
    sym (c.self.invariant.agrees c.args.key) ∙ sym c.get.ensures ∙ sym c.number.ensures ∙ c.in-Some.is in
    let below = place_below same g.K.SolverId.is_id g.I.DenseIndex.limit _ kept c.args.key c.in-Some.index
    c.self.invariant at in
    let place = ap g.I.DenseIndex.index_of c.from_index-id.ensures
    ∙ g.met.I.DenseIndex.round_trip c.in-Some.index below.1 in
    let is : slice_get kept c.in-Some.index ≡ Some c.index_mut.result.now =
    subst (λ n. slice_get kept n ≡ Some c.index_mut.result.now) place c.index_mut.ensures.value in
    subst (λ k. lookup (same c.args.key) k ≡ Some c.replace.result) c.self.view_is
    (answer_earlier same kept c.args.key c.in-Some.index c.index_mut.result.now at is
    ∙ ap Some (sym c.replace.ensures.value))

pub returns-clause-replaced : goal.returns-clause-replaced
returns-clause-replaced g c =
    let same = g.K.PartialEq.eq in
    let kept = c.self.inside.answers in
    let at : place_of same kept c.args.key ≡ Some c.in-Some.index =
    sym (c.self.invariant.agrees c.args.key) ∙ sym c.get.ensures ∙ sym c.number.ensures ∙ c.in-Some.is in
    let below = place_below same g.K.SolverId.is_id g.I.DenseIndex.limit _ kept c.args.key c.in-Some.index
    c.self.invariant at in
    let place = ap g.I.DenseIndex.index_of c.from_index-id.ensures
    ∙ g.met.I.DenseIndex.round_trip c.in-Some.index below.1 in
    let is : slice_get kept c.in-Some.index ≡ Some c.index_mut.result.now =
    subst (λ n. slice_get kept n ≡ Some c.index_mut.result.now) place c.index_mut.ensures.value in
    ap (λ n. set kept n (c.index_mut.result.now.0, c.replace.new.dest)) place
    ∙ answer_replaced same kept c.args.key c.in-Some.index c.index_mut.result.now c.replace.new.dest at is
    ∙ ap (set_value (same c.args.key) kept) c.replace.ensures.after
    ∙ ap (λ k. set_value (same c.args.key) k c.args.value) c.self.view_is
