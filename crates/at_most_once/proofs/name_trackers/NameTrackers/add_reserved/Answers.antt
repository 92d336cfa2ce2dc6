use Rattle.std.proofs.Common.{◌≡◌, ◌<◌, Some, is_some, sym, subst, ap, ◌∙◌}
use Rattle.std.specs.Prelude.{MatchOption}
use Rattle.std.specs.Map.{lookup}
use Rattle.id_storage.specs.StoredAnswers.{place_of}
use Rattle.id_storage.proofs.AnswerLemmas.{no_answer}
use Rattle.at_most_once.specs.AtMostOne.{HasRoom}
use Rattle.at_most_once.specs.NameTrackers.{tracker_of, with_tracked, HasRoomFor}
use Rattle.at_most_once.proofs.TrackerLaws.{is_found, place_within, put_there, room_of_others, still_kept}
use Rattle.at_most_once.proofs.TrackerLaws.{variable_tracked}
use Rattle.at_most_once.proofs.name_trackers.NameTrackers.add_reserved.Goals as goal

pub index_mut-requires : goal.index_mut-requires
index_mut-requires g c =
    let same = g.N.PartialEq.eq in
    let kept = c.self.inside.list.items in
    let at : place_of same kept c.args.name ≡ Some c.in-Some.place =
    sym (c.self.invariant.agrees c.args.name) ∙ (sym c.get.ensures ∙ (sym c.number.ensures ∙ c.in-Some.is)) in
    subst (λ n. c.in-Some.place < n) (sym c.self.inside.list.ok.0)
    (place_within same g.N.SolverId.is_id _ kept c.args.name c.in-Some.place c.self.invariant at)

pub track-requires : goal.track-requires
track-requires g c =
    let same = g.N.PartialEq.eq in
    let kept = c.self.inside.list.items in
    let at : place_of same kept c.args.name ≡ Some c.in-Some.place =
    sym (c.self.invariant.agrees c.args.name) ∙ (sym c.get.ensures ∙ (sym c.number.ensures ∙ c.in-Some.is)) in
    let found = is_found same g.N.SolverId.is_id _ kept c.args.name c.in-Some.place c.self.invariant at
    c.index_mut.result.now c.index_mut.ensures.value in
    subst (λ o. MatchOption o ⊥ (λ t. HasRoom t (is_some c.args.helper)))
    (ap (lookup (same c.args.name)) (sym c.self.view_is) ∙ found) c.requires

pub invariant_of-self : goal.invariant_of-self
invariant_of-self g c =
    let same = g.N.PartialEq.eq in
    let kept = c.self.inside.list.items in
    let at : place_of same kept c.args.name ≡ Some c.in-Some.place =
    sym (c.self.invariant.agrees c.args.name) ∙ (sym c.get.ensures ∙ (sym c.number.ensures ∙ c.in-Some.is)) in
    still_kept same g.N.SolverId.is_id _ kept c.args.name c.in-Some.place c.self.invariant at
    c.index_mut.result.now c.index_mut.ensures.value c.track.new.tracker

pub unreachable-requires : goal.unreachable-requires
unreachable-requires g c =
    let same = g.N.PartialEq.eq in
    let kept = c.self.inside.list.items in
    let none = no_answer same kept c.args.name
    (sym (c.self.invariant.agrees c.args.name) ∙ (sym c.get.ensures ∙ (sym c.number.ensures ∙ c.in-None.is))) in
    subst (λ o. MatchOption o ⊥ (λ t. HasRoom t (is_some c.args.helper)))
    (ap (lookup (same c.args.name)) (sym c.self.view_is) ∙ none) c.requires

pub returns-clause-added : goal.returns-clause-added
returns-clause-added g c =
    let same = g.N.PartialEq.eq in
    let kept = c.self.inside.list.items in
    let place = c.in-Some.place in
    let at : place_of same kept c.args.name ≡ Some place =
    sym (c.self.invariant.agrees c.args.name) ∙ (sym c.get.ensures ∙ (sym c.number.ensures ∙ c.in-Some.is)) in
    let found = is_found same g.N.SolverId.is_id _ kept c.args.name place c.self.invariant at
    c.index_mut.result.now c.index_mut.ensures.value in
    ap (tracker_of same) (put_there same g.N.SolverId.is_id _ kept c.args.name place c.self.invariant at
    c.index_mut.result.now c.index_mut.ensures.value c.track.new.tracker)
    ∙ (variable_tracked same g.met.N.Eq.laws g.met.N.SameValue.same kept c.args.name c.index_mut.result.now.1
    c.track.new.tracker
    found c.args.variable c.args.helper c.track.ensures
    ∙ ap (λ now. with_tracked same c.args.name c.args.variable c.args.helper (tracker_of same now)) c.self.view_is)

pub returns-clause-keeps : goal.returns-clause-keeps
returns-clause-keeps g c = λ other differs with_helper h.
    let same = g.N.PartialEq.eq in
    let kept = c.self.inside.list.items in
    let place = c.in-Some.place in
    let at : place_of same kept c.args.name ≡ Some place =
    sym (c.self.invariant.agrees c.args.name) ∙ (sym c.get.ensures ∙ (sym c.number.ensures ∙ c.in-Some.is)) in
    let found = is_found same g.N.SolverId.is_id _ kept c.args.name place c.self.invariant at
    c.index_mut.result.now c.index_mut.ensures.value in
    subst (λ now. HasRoomFor same now other with_helper)
    (sym (put_there same g.N.SolverId.is_id _ kept c.args.name place c.self.invariant at
    c.index_mut.result.now c.index_mut.ensures.value c.track.new.tracker))
    (room_of_others same g.met.N.Eq.laws g.met.N.SameValue.same kept c.args.name c.index_mut.result.now.1
    c.track.new.tracker
    found other differs with_helper (subst (λ old. HasRoomFor same old other with_helper) (sym c.self.view_is) h))
