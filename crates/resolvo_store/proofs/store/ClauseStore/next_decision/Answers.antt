use Rattle.std.proofs.lemmas.Grind.{common_steps}
use Rattle.std.proofs.Common.{◌≡◌, ◌∙◌, None, refl, sym, subst, ap, arith}
use Rattle.std.specs.Prelude.{All, ◌↔◌, false, option_map}
use Rattle.resolvo_queue.proofs.Clauses.Callers.{values_of_entries}
use Rattle.resolvo_store.proofs.Words.{CanWalk, decided, DecidesUnbeaten, decisions_of, eligible, falsified_clause}
use Rattle.resolvo_store.proofs.Words.{first_falsified, HasSynced, HasTrail, IfOk, is_eligible, is_eligible_clause}
use Rattle.resolvo_store.proofs.Words.{IsConsistent, offers, OnOk, pick, picked, queue_state_of, references, scan}
use Rattle.resolvo_store.proofs.Words.{StandsOn, store_of, stored_of, StoreState, Trail, val, values_of, WalksEachOnce}
use Rattle.resolvo_store.specs.Store.{Provider, gathered}
use Rattle.resolvo_store.proofs.AskingLemmas.{can_walk, asked_as_store, asked_by_store}
use Rattle.resolvo_store.proofs.CallerLaws.{store_in}
use Rattle.resolvo_store.proofs.CountedLemmas.{counted_still}
use Rattle.resolvo_store.proofs.InvariantLemmas.{after_sync}
use Rattle.resolvo_store.proofs.MarkedLaws.{marks_same}
use Rattle.resolvo_store.proofs.WalkLemmas.{asks_told, asks_walked, on_any, told_of}
use Rattle.resolvo_store.proofs.store.ClauseStore.next_decision.Given.{Over}
use Rattle.resolvo_store.proofs.store.ClauseStore.next_decision.Goals as goal

-- the provider's functions
abbrev given : (g : Over) → g.row.D.Denot → Provider g.row.D-NameId.Denot g.row.D-SolvableId.Denot
given g = gathered g.D.NameId.PartialEq.eq g.D.SolvableId.PartialEq.eq g.D.NameId.Slots.IdMap.is_too_large
    g.D.SolvableId.Slots.IdMap.is_too_large g.D.SolvableId.Set.IdSet.is_too_large g.D.NameId.SolverId.are_many
    g.D.Interner.universe g.D.DependencyProvider.answers

pub sync-requires-clause-values : goal.sync-requires-clause-values
sync-requires-clause-values g c key =
    ap (λ val. val key) c.map.ensures.values ∙ values_of_entries c.take_sync_floor-floor.new.self.entries key
    ∙ ap (λ ds. values_of ds key) (sym c.assignments.ensures.decisions)

pub next_decision-requires-clause-synced : goal.next_decision-requires-clause-synced
next_decision-requires-clause-synced g c =
    let synced = c.in_ok-sync.ensures.ok in
    record {
      accepted = synced.must_start_anew;
      trail = λ v. ap (λ val. val v) c.map-2.ensures.values
          ∙ values_of_entries c.take_sync_floor-floor.new.self.entries v
          ∙ ap (λ ds. values_of ds v) (sym (synced.trail ∙ c.assignments.ensures.decisions));
    }

pub next_decision-requires-clause-stands : goal.next_decision-requires-clause-stands
next_decision-requires-clause-stands g c =
    let inside = c.self.inside in
    subst (λ ls. StandsOn (references (g.D.Interner.universe c.provider.result.now) ls inside.disjunctions)
    c.sync.new.self) (sym c.new-reader.ensures.lists)
    (subst (λ p. StandsOn (references (g.D.Interner.universe p) inside.loaded inside.disjunctions) c.sync.new.self)
    (sym c.provider.ensures.provider)
    (c.sync.ensures.stands (references (g.D.Interner.universe inside.cache.provider) inside.loaded
    inside.disjunctions) c.self.invariant.consistent.may_decide.stands))

-- after the queue was brought up to date, or not
pub invariant_of-self : goal.invariant_of-self
invariant_of-self g c =
    let inside = c.self.inside in
    let st = store_in c.self.invariant.consistent.sound in
    record {
      consistent = subst (λ (t : Trail). IsConsistent g.D.NameId.Set.IdSet.has
          (record st { requires = c.sync.new.self.clauses; trail = t.entries; place = t.place }) inside.loaded
          inside.disjunctions inside.cache c.sync.new.self t)
          (sym c.take_sync_floor-floor.ensures.trail)
          (after_sync c.self.invariant.consistent c.sync.result refl c.sync.ensures.clauses c.sync.ensures.hot
          (c.sync.ensures.stands (references (g.D.Interner.universe inside.cache.provider) inside.loaded
          inside.disjunctions) c.self.invariant.consistent.may_decide.stands)
          (subst (λ ds. OnOk c.sync.result (HasTrail ds c.sync.new.self)) (c.assignments.ensures.decisions
          ∙ ap (λ t. decisions_of t.entries) c.take_sync_floor-floor.ensures.trail) c.sync.ensures.ok)
          c.sync.ensures.err);
      counted = counted_still c.sync.ensures.clauses.clauses (ap
          (λ (t : Trail). t.entries) c.take_sync_floor-floor.ensures.trail) c.self.invariant.counted;
      marked = marks_same st inside.marks c.self.invariant.marked c.take_sync_floor-floor.new.self
          (ap (λ (t : Trail). t.entries) c.take_sync_floor-floor.ensures.trail);
    }

pub next_decision-requires-clause-walkable : goal.next_decision-requires-clause-walkable
next_decision-requires-clause-walkable g c =
    let inside = c.self.inside in
    subst (λ cs. All (CanWalk (references (g.D.Interner.universe c.provider.result.now) c.new-reader.result.lists
    inside.disjunctions)) cs) (sym c.sync.ensures.clauses.clauses)
    (subst (λ ls. All (CanWalk (references (g.D.Interner.universe c.provider.result.now) ls inside.disjunctions))
    inside.queue.clauses) (sym c.new-reader.ensures.lists)
    (subst (λ p. All (CanWalk (references (g.D.Interner.universe p) inside.loaded inside.disjunctions))
    inside.queue.clauses) (sym c.provider.ensures.provider)
    (can_walk c.self.invariant.consistent refl refl)))

pub next_decision-requires-clause-none_falsified : goal.next_decision-requires-clause-none_falsified
next_decision-requires-clause-none_falsified g c =
    let inside = c.self.inside in
    let kept = stored_of (store_in c.self.invariant.consistent.sound) in
    asked_by_store (g.D.Interner.universe inside.cache.provider) inside.loaded inside.disjunctions kept.learnt
    kept.lists
    (λ val literals_of rows_of score_of clauses. first_falsified val literals_of rows_of clauses ≡ None)
    (ap g.D.Interner.universe c.provider.ensures.provider) c.new-reader.ensures.lists (c.map-2.ensures.values
    ∙ ap (λ t. val t.entries) c.take_sync_floor-floor.ensures.trail)
    (ap g.D.NameId.Scores.IdMap.value_at c.map-3.ensures) c.sync.ensures.clauses.clauses
    (subst (λ (k : StoreState g.row.D.Denot g.row.D-NameId.Denot g.row.D-SolvableId.Denot
    g.row.D-NameId-Scores.Denot). falsified_clause (store_of (given g) g.D.NameId.Scores.IdMap.value_at k)
    ≡ None) (sym c.self.view_is) c.requires)

pub returns-clause-picked : goal.returns-clause-picked
returns-clause-picked g c =
    let inside = c.self.inside in
    let kept = stored_of (store_in c.self.invariant.consistent.sound) in
    subst (λ (k : StoreState g.row.D.Denot g.row.D-NameId.Denot g.row.D-SolvableId.Denot
    g.row.D-NameId-Scores.Denot). IfOk c.next_decision.result
    (λ decision. decision ≡ option_map decided (picked (store_of (given g) g.D.NameId.Scores.IdMap.value_at k))))
    c.self.view_is
    (asked_as_store (g.D.Interner.universe inside.cache.provider) inside.loaded inside.disjunctions kept.learnt
    kept.lists
    (λ val literals_of rows_of score_of clauses. IfOk c.next_decision.result
    (λ decision. decision ≡ option_map decided (pick (eligible val literals_of rows_of score_of clauses))))
    (ap g.D.Interner.universe c.provider.ensures.provider) c.new-reader.ensures.lists (c.map-2.ensures.values
    ∙ ap (λ t. val t.entries) c.take_sync_floor-floor.ensures.trail)
    (ap g.D.NameId.Scores.IdMap.value_at c.map-3.ensures) c.sync.ensures.clauses.clauses
    c.next_decision.ensures.picked)

pub returns-clause-none : goal.returns-clause-none
returns-clause-none g c =
    let inside = c.self.inside in
    let kept = stored_of (store_in c.self.invariant.consistent.sound) in
    subst (λ (k : StoreState g.row.D.Denot g.row.D-NameId.Denot g.row.D-SolvableId.Denot
    g.row.D-NameId-Scores.Denot). IfOk c.next_decision.result
    (λ decision. (decision ≡ None) ↔ All (λ q. is_eligible_clause
    (store_of (given g) g.D.NameId.Scores.IdMap.value_at k) q ≡ false) (scan k.requires))) c.self.view_is
    (asked_as_store (g.D.Interner.universe inside.cache.provider) inside.loaded inside.disjunctions kept.learnt
    kept.lists
    (λ val literals_of rows_of score_of clauses. IfOk c.next_decision.result
    (λ decision. (decision ≡ None) ↔ All (λ q. is_eligible val literals_of rows_of q ≡ false) (scan clauses)))
    (ap g.D.Interner.universe c.provider.ensures.provider) c.new-reader.ensures.lists (c.map-2.ensures.values
    ∙ ap (λ t. val t.entries) c.take_sync_floor-floor.ensures.trail)
    (ap g.D.NameId.Scores.IdMap.value_at c.map-3.ensures) c.sync.ensures.clauses.clauses
    c.next_decision.ensures.none)

pub returns-clause-unbeaten : goal.returns-clause-unbeaten
returns-clause-unbeaten g c =
    let inside = c.self.inside in
    let kept = stored_of (store_in c.self.invariant.consistent.sound) in
    subst (λ (k : StoreState g.row.D.Denot g.row.D-NameId.Denot g.row.D-SolvableId.Denot
    g.row.D-NameId-Scores.Denot). IfOk c.next_decision.result
    (DecidesUnbeaten (offers (store_of (given g) g.D.NameId.Scores.IdMap.value_at k)))) c.self.view_is
    (asked_as_store (g.D.Interner.universe inside.cache.provider) inside.loaded inside.disjunctions kept.learnt
    kept.lists
    (λ val literals_of rows_of score_of clauses. IfOk c.next_decision.result
    (DecidesUnbeaten (eligible val literals_of rows_of score_of clauses)))
    (ap g.D.Interner.universe c.provider.ensures.provider) c.new-reader.ensures.lists (c.map-2.ensures.values
    ∙ ap (λ t. val t.entries) c.take_sync_floor-floor.ensures.trail)
    (ap g.D.NameId.Scores.IdMap.value_at c.map-3.ensures) c.sync.ensures.clauses.clauses
    c.next_decision.ensures.unbeaten)

pub returns-in_err-sync-clause-same : goal.returns-in_err-sync-clause-same
returns-in_err-sync-clause-same g c = grind (arith, common_steps)

pub returns-in_err-sync-clause-provider : goal.returns-in_err-sync-clause-provider
returns-in_err-sync-clause-provider g c = grind (arith, common_steps)

pub invariant_of-self-2 : goal.invariant_of-self-2
invariant_of-self-2 g c = grind (arith, common_steps)

pub returns-clause-same : goal.returns-clause-same
returns-clause-same g c = grind (arith, common_steps)

pub returns-clause-provider : goal.returns-clause-provider
returns-clause-provider g c = grind (arith, common_steps)

pub returns-in_err-sync-clause-queue_state : goal.returns-in_err-sync-clause-queue_state
returns-in_err-sync-clause-queue_state g c =
    subst (λ (k : StoreState g.row.D.Denot g.row.D-NameId.Denot g.row.D-SolvableId.Denot
    g.row.D-NameId-Scores.Denot). WalksEachOnce (store_of (given g) g.D.NameId.Scores.IdMap.value_at k)
    k.queue_state (queue_state_of c.sync.new.self c.take_sync_floor-floor.new.self)) c.self.view_is
    (asks_told c.self.invariant.consistent refl refl refl c.take_sync_floor-floor.result c.assignments.result.now
    c.sync.new.self c.take_sync_floor-floor.new.self
    c.take_sync_floor-floor.ensures.floor (c.assignments.ensures.decisions
    ∙ ap (λ t. decisions_of t.entries) c.take_sync_floor-floor.ensures.trail)
    c.sync.ensures.walks c.sync.ensures.owed c.sync.ensures.owed_still)

pub returns-clause-queue_state : goal.returns-clause-queue_state
returns-clause-queue_state g c =
    subst (λ (k : StoreState g.row.D.Denot g.row.D-NameId.Denot g.row.D-SolvableId.Denot
    g.row.D-NameId-Scores.Denot). WalksEachOnce (store_of (given g) g.D.NameId.Scores.IdMap.value_at k)
    k.queue_state (queue_state_of c.next_decision.new.self c.take_sync_floor-floor.new.self)) c.self.view_is
    (asks_walked c.self.invariant.consistent refl refl refl c.sync.new.self c.next_decision.new.self
    c.take_sync_floor-floor.new.self c.take_sync_floor-floor.new.self
    c.new-reader.result.walked c.next_decision.new.reader.walked
    (asks_told c.self.invariant.consistent refl refl refl c.take_sync_floor-floor.result c.assignments.result.now
    c.sync.new.self c.take_sync_floor-floor.new.self
    c.take_sync_floor-floor.ensures.floor (c.assignments.ensures.decisions
    ∙ ap (λ t. decisions_of t.entries) c.take_sync_floor-floor.ensures.trail)
    c.sync.ensures.walks c.sync.ensures.owed c.sync.ensures.owed_still)
    c.sync.ensures.walks c.next_decision.ensures.walks c.next_decision.ensures.owed)

pub returns-clause-in_sync : goal.returns-clause-in_sync
returns-clause-in_sync g c =
    subst (λ (k : StoreState g.row.D.Denot g.row.D-NameId.Denot g.row.D-SolvableId.Denot
    g.row.D-NameId-Scores.Denot). OnOk c.next_decision.result
    (HasSynced (store_of (given g) g.D.NameId.Scores.IdMap.value_at k).trail
    (queue_state_of c.next_decision.new.self c.take_sync_floor-floor.new.self))) c.self.view_is
    (on_any c.next_decision.result (told_of c.self.invariant.consistent refl refl refl c.assignments.result.now
    c.sync.new.self c.next_decision.new.self c.take_sync_floor-floor.new.self
    c.take_sync_floor-floor.ensures.trail c.assignments.ensures.decisions c.in_ok-sync.ensures.ok
    c.next_decision.ensures.unchanged.synced))
