use Rattle.std.proofs.Common.{◌≡◌, ◌≢◌, Some, None, is_some, true≢false, sym, ap, ◌∙◌}
use Rattle.std.specs.Map.{lookup}
use Rattle.id_storage.specs.StoredAnswers.{place_of}
use Rattle.id_storage.proofs.AnswerLemmas.{no_answer}
use Rattle.at_most_once.proofs.name_trackers.NameTrackers.reach.Goals as goal

pub start-requires : goal.start-requires
start-requires g c =
    let same = g.N.PartialEq.eq in
    ap (lookup (same c.args.name)) (sym c.self.view_is)
    ∙ no_answer same c.self.inside.list.items c.args.name
    (sym (c.self.invariant.agrees c.args.name) ∙ (sym c.get.ensures ∙ (sym c.number.ensures ∙ c.in-None.is)))

pub returns-in-Some-clause-place : goal.returns-in-Some-clause-place
returns-in-Some-clause-place g c =
    ap (λ now. place_of g.N.PartialEq.eq now c.args.name) (sym c.self.view_is)
    ∙ (sym (c.self.invariant.agrees c.args.name) ∙ (sym c.get.ensures ∙ (sym c.number.ensures ∙ c.in-Some.is)))

-- a name with a place isn't too large for the map
pub returns-in-Some-clause-too_large : goal.returns-in-Some-clause-too_large
returns-in-Some-clause-too_large g c = λ large.
    let places = c.self.inside.places in
    let is : g.N.Slots.IdMap.value_at places c.args.name ≡ Some c.in-Some.place =
    sym c.get.ensures ∙ (sym c.number.ensures ∙ c.in-Some.is) in
    let written : g.N.Slots.IdMap.value_at places c.args.name ≢ None =
    λ none. true≢false (sym (ap is_some is) ∙ ap is_some none) in
    absurd (true≢false (sym large ∙ g.met.N.Slots.IdMap.room_fits places c.args.name
    (g.met.N.Slots.IdMap.written places c.args.name written)))

pub returns-in-None-clause-known : goal.returns-in-None-clause-known
returns-in-None-clause-known g c = λ some.
    let same = g.N.PartialEq.eq in
    let none : lookup (same c.args.name) c.args.self.now ≡ None =
    ap (lookup (same c.args.name)) (sym c.self.view_is)
    ∙ no_answer same c.self.inside.list.items c.args.name
    (sym (c.self.invariant.agrees c.args.name) ∙ (sym c.get.ensures ∙ (sym c.number.ensures ∙ c.in-None.is))) in
    absurd (true≢false (sym some ∙ ap is_some none))
