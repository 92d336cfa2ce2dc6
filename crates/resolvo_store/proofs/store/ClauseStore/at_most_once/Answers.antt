use Rattle.std.proofs.lemmas.Grind.{common_steps}
use Rattle.std.proofs.Common.{◌≡◌, ◌<◌, ◌∙◌, sym, subst, length, true, arith}
use Rattle.std.specs.Prelude.{◌&&◌, not}
use Rattle.std.proofs.lemmas.Bool.Decides.{nat_tests}
use Rattle.resolvo_store.proofs.Words.{AtMostOnce, contents, HasMarks, is_helper_among, nat_lt, replied, Step, Store}
use Rattle.resolvo_store.proofs.Words.{store_of, StoreState, tracked, tracker_of, tracking}
use Rattle.resolvo_store.specs.Store.{Provider, gathered}
use Rattle.resolvo_store.proofs.AddingLemmas.{both, failed}
use Rattle.resolvo_store.proofs.InvariantLemmas.{after_tracked}
use Rattle.resolvo_store.proofs.PartOutcomes.{tracked_or_same, with_list}
use Rattle.resolvo_store.proofs.CallerLaws.{store_in}
use Rattle.resolvo_store.proofs.KnownLemmas.{IsLawful}
use Rattle.resolvo_store.proofs.MarkedLaws.{marks_more, forbidden_or_same}
use Rattle.resolvo_store.proofs.TrackingSteps.{step_tracked}
use Rattle.resolvo_store.proofs.store.ClauseStore.at_most_once.Given.{Over}
use Rattle.resolvo_store.proofs.store.ClauseStore.at_most_once.Goals as goal

-- the provider's functions
abbrev given : (g : Over) → g.row.D.Denot → Provider g.row.D-NameId.Denot g.row.D-SolvableId.Denot
given g = gathered g.D.NameId.PartialEq.eq g.D.SolvableId.PartialEq.eq g.D.NameId.Slots.IdMap.is_too_large
    g.D.SolvableId.Slots.IdMap.is_too_large g.D.SolvableId.Set.IdSet.is_too_large g.D.NameId.SolverId.are_many
    g.D.Interner.universe g.D.DependencyProvider.answers

-- its laws
abbrev lawful : (g : Over) (p : g.row.D.Denot) → IsLawful (given g p)
lawful g p = record {
  reflexive = g.met.D.SolvableId.Eq.laws.refl;
  same = g.met.D.SolvableId.SameValue.same;
  same_names = g.met.D.NameId.SameValue.same;
  candidates = g.met.D.DependencyProvider.candidates_known p;
  order = g.met.D.DependencyProvider.order_permutes p;
}

pub invariant_of-self : goal.invariant_of-self
invariant_of-self g c =
    let name = c.args.name in
    let v = c.args.variable in
    let os = c.self.inside.variables in
    let named = (g.D.Interner.universe c.self.inside.cache.provider).knows_name name in
    let known = subst (λ p. ((g.D.Interner.universe p).knows_name name
    && (nat_lt v (length os) && not (is_helper_among os v))) ≡ true) c.provider.ensures.provider
    (sym c.may_track.ensures ∙ c.if-not-may_track.false) in
    let one = both named (nat_lt v (length os) && not (is_helper_among os v)) known in
    let two = both (nat_lt v (length os)) (not (is_helper_among os v)) one.1 in
    let within : v < length os = (let test = two.0 in grind (arith, nat_tests, test)) in
    let call = c.track-answer in
    let first = c.len-first.ensures.value ∙ sym c.self.invariant.consistent.sound.watched in
    record {
      consistent = after_tracked c.self.invariant.consistent name v call.result
          (lawful g c.self.inside.cache.provider) one.0 within (failed (is_helper_among os v) two.1)
          (sym c.is_tracked.ensures ∙ c.if-is_tracked.false)
          call.ensures.variables call.ensures.clauses call.ensures.trackers call.ensures.same_variables
          call.ensures.same_clauses call.ensures.same_trackers;
      counted = c.self.invariant.counted;
      marked = subst (HasMarks (with_list (store_in c.self.invariant.consistent.sound) (contents call.new.clauses)))
          (sym c.forget_false_from.ensures)
          (marks_more (store_in c.self.invariant.consistent.sound) c.self.inside.marks c.self.invariant.marked
          (contents call.new.clauses) c.len-first.result first
          (forbidden_or_same (contents c.self.inside.clauses) name
          (tracking (store_in c.self.invariant.consistent.sound) name v) call.result call.ensures.clauses
          call.ensures.same_clauses));
    }

pub returns-clause-step : goal.returns-clause-step
returns-clause-step g c =
    let name = c.args.name in
    let v = c.args.variable in
    let old = store_in c.self.invariant.consistent.sound in
    let os = c.self.inside.variables in
    let may = subst (λ p. ((g.D.Interner.universe p).knows_name name
    && (nat_lt v (length os) && not (is_helper_among os v))) ≡ true) c.provider.ensures.provider
    (sym c.may_track.ensures ∙ c.if-not-may_track.false) in
    let origins = c.track-answer.new.variables in
    let clauses = contents c.track-answer.new.clauses in
    let trackers = tracker_of g.D.NameId.PartialEq.eq c.track-answer.new.trackers in
    let after : Store g.row.D-NameId.Denot g.row.D-SolvableId.Denot =
    record (with_list old clauses) { origins = origins; trackers = trackers } in
    let parts = tracked_or_same old name v origins clauses trackers c.track-answer.result
    c.track-answer.ensures.variables c.track-answer.ensures.clauses c.track-answer.ensures.trackers
    c.track-answer.ensures.same_variables c.track-answer.ensures.same_clauses c.track-answer.ensures.same_trackers in
    subst (λ (k : StoreState g.row.D.Denot g.row.D-NameId.Denot g.row.D-SolvableId.Denot
    g.row.D-NameId-Scores.Denot). Step (store_of (given g) g.D.NameId.Scores.IdMap.value_at k)
    (AtMostOnce name v) (replied tracked c.track-answer.result) after) c.self.view_is
    (step_tracked old name v c.track-answer.result after may (sym c.is_tracked.ensures
    ∙ c.if-is_tracked.false) c.track-answer.ensures.tracked parts.0 parts.1 c.track-answer.ensures.fits
    c.track-answer.ensures.refused)

pub returns-clause-provider : goal.returns-clause-provider
returns-clause-provider g c = grind (arith, common_steps)
