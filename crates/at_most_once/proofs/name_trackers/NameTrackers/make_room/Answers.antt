use Rattle.std.proofs.Common.{◌<◌, is_some, sym, subst, ap, ◌∙◌}
use Rattle.std.specs.Prelude.{OnOk, MatchOption}
use Rattle.std.specs.Map.{lookup}
use Rattle.id_storage.specs.StoredAnswers.{place_of}
use Rattle.at_most_once.specs.AtMostOne.{HasRoom}
use Rattle.at_most_once.specs.NameTrackers.{tracker_of, HasRoomFor}
use Rattle.at_most_once.proofs.TrackerLaws.{is_found, place_within, put_there, room_kept, still_found, still_kept}
use Rattle.at_most_once.proofs.TrackerLaws.{tracker_kept}
use Rattle.at_most_once.proofs.name_trackers.NameTrackers.make_room.Goals as goal

pub index_mut-requires : goal.index_mut-requires
index_mut-requires g c =
    let same = g.N.PartialEq.eq in
    let kept = c.self.inside.list.items in
    let at = ap (λ now. place_of same now c.args.name) c.self.view_is ∙ c.in_ok-place.ensures.place in
    subst (λ n. c.in_ok-place.place < n) (sym c.self.inside.list.ok.0)
    (place_within same g.N.SolverId.is_id _ kept c.args.name c.in_ok-place.place c.self.invariant at)

pub invariant_of-self : goal.invariant_of-self
invariant_of-self g c =
    let same = g.N.PartialEq.eq in
    let kept = c.self.inside.list.items in
    let at = ap (λ now. place_of same now c.args.name) c.self.view_is ∙ c.in_ok-place.ensures.place in
    still_kept same g.N.SolverId.is_id _ kept c.args.name c.in_ok-place.place c.self.invariant at
    c.index_mut.result.now c.index_mut.ensures.value c.make_room.new.self

pub returns-clause-same : goal.returns-clause-same
returns-clause-same g c =
    let same = g.N.PartialEq.eq in
    let kept = c.self.inside.list.items in
    let at = ap (λ now. place_of same now c.args.name) c.self.view_is ∙ c.in_ok-place.ensures.place in
    let place = c.in_ok-place.place in
    let found = is_found same g.N.SolverId.is_id _ kept c.args.name place c.self.invariant at
    c.index_mut.result.now c.index_mut.ensures.value in
    ap (tracker_of same) (put_there same g.N.SolverId.is_id _ kept c.args.name place c.self.invariant at
    c.index_mut.result.now c.index_mut.ensures.value c.make_room.new.self)
    ∙ (tracker_kept same g.met.N.Eq.laws g.met.N.SameValue.same kept c.args.name c.index_mut.result.now.1
    c.make_room.new.self
    found c.make_room.ensures.same
    ∙ (ap (tracker_of same) c.self.view_is ∙ c.in_ok-place.ensures.same))

pub returns-clause-room : goal.returns-clause-room
returns-clause-room g c =
    let same = g.N.PartialEq.eq in
    let kept = c.self.inside.list.items in
    let at = ap (λ now. place_of same now c.args.name) c.self.view_is ∙ c.in_ok-place.ensures.place in
    let place = c.in_ok-place.place in
    let found = is_found same g.N.SolverId.is_id _ kept c.args.name place c.self.invariant at
    c.index_mut.result.now c.index_mut.ensures.value in
    let now = ap (lookup (same c.args.name))
    (put_there same g.N.SolverId.is_id _ kept c.args.name place c.self.invariant at
    c.index_mut.result.now c.index_mut.ensures.value c.make_room.new.self)
    ∙ still_found same g.met.N.Eq.laws kept c.args.name c.make_room.new.self (ap is_some found) in
    subst (λ o. OnOk c.make_room.result (MatchOption o ⊥ (λ t. HasRoom t c.args.with_helper)))
    (sym now) c.make_room.ensures.room

pub returns-clause-succeeds : goal.returns-clause-succeeds
returns-clause-succeeds g c = λ h.
    let same = g.N.PartialEq.eq in
    let kept = c.self.inside.list.items in
    let at = ap (λ now. place_of same now c.args.name) c.self.view_is ∙ c.in_ok-place.ensures.place in
    let found = is_found same g.N.SolverId.is_id _ kept c.args.name c.in_ok-place.place c.self.invariant at
    c.index_mut.result.now c.index_mut.ensures.value in
    c.make_room.ensures.succeeds (subst (λ o. MatchOption o ⊥ (λ t. HasRoom t c.args.with_helper))
    (ap (lookup (same c.args.name)) (sym c.self.view_is) ∙ found)
    (c.in_ok-place.ensures.keeps c.args.name c.args.with_helper h))

pub returns-clause-keeps : goal.returns-clause-keeps
returns-clause-keeps g c = λ other with_helper h.
    let same = g.N.PartialEq.eq in
    let kept = c.self.inside.list.items in
    let at = ap (λ now. place_of same now c.args.name) c.self.view_is ∙ c.in_ok-place.ensures.place in
    let place = c.in_ok-place.place in
    let found = is_found same g.N.SolverId.is_id _ kept c.args.name place c.self.invariant at
    c.index_mut.result.now c.index_mut.ensures.value in
    subst (λ now. HasRoomFor same now other with_helper)
    (sym (put_there same g.N.SolverId.is_id _ kept c.args.name place c.self.invariant at
    c.index_mut.result.now c.index_mut.ensures.value c.make_room.new.self))
    (room_kept same g.met.N.Eq.laws g.met.N.SameValue.same kept c.args.name c.index_mut.result.now.1
    c.make_room.new.self
    found c.make_room.ensures.keeps other with_helper
    (subst (λ old. HasRoomFor same old other with_helper) (sym c.self.view_is)
    (c.in_ok-place.ensures.keeps other with_helper h)))
