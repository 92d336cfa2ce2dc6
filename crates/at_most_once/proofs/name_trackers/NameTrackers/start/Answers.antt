use Rattle.std.proofs.Common.{◌≡◌, ◌<◌, ◌^◌, ◌++◌, ◌∷◌, [], None, is_some, length, min, sym, subst, ap, ◌∙◌, arith}
use Rattle.std.specs.Prelude.{IsTrue}
use Rattle.std.specs.Map.{lookup}
use Rattle.id_storage.specs.StoredAnswers.{AreStored, place_of}
use Rattle.id_storage.proofs.AnswerLemmas.{AreStored-push, AreStored-same, fewer_kept}
use Rattle.at_most_once.specs.NameTrackers.{tracker_of, KeepsRoomFor, lacks_tracker}
use Rattle.at_most_once.proofs.TrackerLaws.{room_started, too_many, tracker_missing, tracker_started}
use Rattle.at_most_once.proofs.name_trackers.NameTrackers.start.Goals as goal

pub returns-then-place-clause-refused : goal.returns-then-place-clause-refused
returns-then-place-clause-refused g c =
    let same = g.N.PartialEq.eq in
    let kept = c.self.inside.list.items in
    let none : lookup (same c.args.name) kept ≡ None = ap (lookup (same c.args.name)) c.self.view_is ∙ c.requires in
    let size : c.len-place.result ≡ length kept = c.len-place.ensures ∙ c.self.inside.list.ok.0 in
    subst (λ now. IsTrue (lacks_tracker (g.N.Slots.IdMap.is_too_large c.args.name) g.N.SolverId.are_many
    (tracker_of same now c.args.name)))
    c.self.view_is
    (too_many (g.N.Slots.IdMap.is_too_large c.args.name) g.N.SolverId.are_many (length kept)
    (tracker_of same kept c.args.name)
    (fewer_kept same g.met.N.Eq.laws g.N.SolverId.is_id g.N.SolverId.are_many g.met.N.SolverId.few
    (2 ^ 32) _ kept c.args.name
    c.self.invariant c.attest.ensures none)
    (omega (arith, size, c.if-place.true)) (tracker_missing same kept c.args.name (ap is_some none)))

pub invariant_of-self : goal.invariant_of-self
invariant_of-self g c =
    AreStored-same g.N.PartialEq.eq g.N.SolverId.is_id (2 ^ 32) _ _ c.self.inside.list.items c.make_room.ensures.same
    c.self.invariant

pub invariant_of-self-in_err-reserve : goal.invariant_of-self-in_err-reserve
invariant_of-self-in_err-reserve g c =
    subst (AreStored g.N.PartialEq.eq g.N.SolverId.is_id (2 ^ 32) (g.N.Slots.IdMap.value_at c.make_room.new.self))
    (sym c.reserve.ensures.items)
    (AreStored-same g.N.PartialEq.eq g.N.SolverId.is_id (2 ^ 32) _ _ c.self.inside.list.items
    c.make_room.ensures.same c.self.invariant)

pub invariant_of-self-2 : goal.invariant_of-self-2
invariant_of-self-2 g c =
    let same = g.N.PartialEq.eq in
    let kept = c.self.inside.list.items in
    let none : lookup (same c.args.name) kept ≡ None = ap (lookup (same c.args.name)) c.self.view_is ∙ c.requires in
    let size : c.len-place.result ≡ length kept = c.len-place.ensures ∙ c.self.inside.list.ok.0 in
    let below : c.len-place.result < min (2 ^ 32) (2 ^ 32) = omega (arith, c.if-place.false) in
    subst (AreStored same g.N.SolverId.is_id (2 ^ 32) (g.N.Slots.IdMap.value_at c.put.new.self))
    (sym (c.push_reserved.ensures.items ∙ ap (λ l. l ++ (c.args.name, c.new.result) ∷ []) c.reserve.ensures.items))
    (AreStored-push same g.met.N.Eq.laws g.met.N.SameValue.same g.N.SolverId.is_id (2 ^ 32) c.len-place.result
    _ _ _ kept c.args.name c.new.result size below
    c.self.invariant c.make_room.ensures.same none c.attest.ensures (
      c.put.ensures.put.0
          ∙ c.new-2.ensures,
      c.put.ensures.put.1,
    ))

pub returns-clause-same : goal.returns-clause-same
returns-clause-same g c =
    let same = g.N.PartialEq.eq in
    ap (tracker_of same)
    (c.push_reserved.ensures.items ∙ ap (λ l. l ++ (c.args.name, c.new.result) ∷ []) c.reserve.ensures.items)
    ∙ tracker_started same c.self.inside.list.items c.args.name c.new.result c.new.ensures.empty
    ∙ ap (tracker_of same) c.self.view_is

pub returns-clause-place : goal.returns-clause-place
returns-clause-place g c =
    let same = g.N.PartialEq.eq in
    let kept = c.self.inside.list.items in
    let none : lookup (same c.args.name) kept ≡ None = ap (lookup (same c.args.name)) c.self.view_is ∙ c.requires in
    let size : c.len-place.result ≡ length kept = c.len-place.ensures ∙ c.self.inside.list.ok.0 in
    let below : c.len-place.result < min (2 ^ 32) (2 ^ 32) = omega (arith, c.if-place.false) in
    let put = c.put.ensures.put.0 ∙ c.new-2.ensures in
    let more = AreStored-push same g.met.N.Eq.laws g.met.N.SameValue.same g.N.SolverId.is_id (2 ^ 32) c.len-place.result
    _ _ _ kept c.args.name c.new.result size below
    c.self.invariant c.make_room.ensures.same none c.attest.ensures (put, c.put.ensures.put.1) in
    ap (λ now. place_of same now c.args.name)
    (c.push_reserved.ensures.items ∙ ap (λ l. l ++ (c.args.name, c.new.result) ∷ []) c.reserve.ensures.items)
    ∙ (sym (more.agrees c.args.name) ∙ put)

pub returns-clause-keeps : goal.returns-clause-keeps
returns-clause-keeps g c = λ other.
    let same = g.N.PartialEq.eq in
    let kept = c.self.inside.list.items in
    subst (λ now. KeepsRoomFor same other c.args.self.now now)
    (sym (c.push_reserved.ensures.items ∙ ap (λ l. l ++ (c.args.name, c.new.result) ∷ []) c.reserve.ensures.items))
    (subst (λ old. KeepsRoomFor same other old (kept ++ (c.args.name, c.new.result) ∷ [])) c.self.view_is
    (room_started same kept c.args.name c.new.result other))
