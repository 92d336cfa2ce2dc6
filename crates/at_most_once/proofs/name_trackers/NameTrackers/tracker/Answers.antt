use Rattle.std.proofs.Common.{◌≡◌, ◌<◌, Some, None, is_some, sym, subst, ap, ◌∙◌}
use Rattle.id_storage.specs.StoredAnswers.{place_of}
use Rattle.id_storage.proofs.AnswerLemmas.{no_answer}
use Rattle.at_most_once.specs.AtMostOne.{empty}
use Rattle.at_most_once.specs.NameTrackers.{tracker_of}
use Rattle.at_most_once.proofs.TrackerLaws.{is_found, place_within, tracker_found, tracker_missing}
use Rattle.at_most_once.proofs.name_trackers.NameTrackers.tracker.Goals as goal

pub index-requires : goal.index-requires
index-requires g c =
    let same = g.N.PartialEq.eq in
    let kept = c.self.inside.list.items in
    let at : place_of same kept c.args.name ≡ Some c.in-Some.place =
    sym (c.self.invariant.agrees c.args.name) ∙ (sym c.get.ensures ∙ (sym c.number.ensures ∙ c.in-Some.is)) in
    subst (λ n. c.in-Some.place < n) (sym c.self.inside.list.ok.0)
    (place_within same g.N.SolverId.is_id _ kept c.args.name c.in-Some.place c.self.invariant at)

pub returns-in-Some-clause-some : goal.returns-in-Some-clause-some
returns-in-Some-clause-some g c =
    let same = g.N.PartialEq.eq in
    let kept = c.self.inside.list.items in
    let at : place_of same kept c.args.name ≡ Some c.in-Some.place =
    sym (c.self.invariant.agrees c.args.name) ∙ (sym c.get.ensures ∙ (sym c.number.ensures ∙ c.in-Some.is)) in
    subst (λ now. tracker_of same now c.args.name ≡ c.index.result.now.1.tracker) c.self.view_is
    (tracker_found same kept c.args.name (Some c.index.result.now.1)
    (is_found same g.N.SolverId.is_id _ kept c.args.name c.in-Some.place c.self.invariant at c.index.result.now
    c.index.ensures))

pub returns-in-None-clause-none : goal.returns-in-None-clause-none
returns-in-None-clause-none g c =
    let same = g.N.PartialEq.eq in
    let kept = c.self.inside.list.items in
    let none : place_of same kept c.args.name ≡ None =
    sym (c.self.invariant.agrees c.args.name) ∙ (sym c.get.ensures ∙ (sym c.number.ensures ∙ c.in-None.is)) in
    subst (λ now. tracker_of same now c.args.name ≡ empty) c.self.view_is
    (tracker_missing same kept c.args.name (ap is_some (no_answer same kept c.args.name none)))
