use Rattle.std.proofs.lemmas.Grind.{common_steps}
use Rattle.std.proofs.Common.{◌≡◌, ◌≤◌, length, map, sym, ap, refl, subst, ◌∙◌, arith}
use Rattle.std.specs.Prelude.{All}
use Rattle.std.proofs.lemmas.Result.{IfOk-weaker}
use Rattle.resolvo_queue.proofs.Words.{AreNamed, CanWalk, clause_literals, clause_of, eligible, IsSynced, literals_in}
use Rattle.resolvo_queue.proofs.Words.{OnlyHotScore, owed, pick, Queue, queue_of, references, score_in, StandsOn}
use Rattle.resolvo_queue.proofs.Words.{values_in, WalksOnce}
use Rattle.resolvo_queue.specs.References.{rows_in}
use Rattle.resolvo_queue.proofs.Clauses.Synced.{kept_still, order_asked, order_grown}
use Rattle.resolvo_queue.proofs.Clauses.Synced.{ready_asked, stands_asked, stands_partly}
use Rattle.resolvo_queue.proofs.Clauses.Counts.{own_number}
use Rattle.resolvo_queue.proofs.Walks.Counts.{walks_nothing}
use Rattle.resolvo_queue.proofs.Picks.Registered.{askable_tracked, cold_sets, cold_without_score}
use Rattle.resolvo_queue.proofs.Picks.Steps.{ready_by}
use Rattle.resolvo_queue.proofs.Picks.Unbeaten.{decides_unbeaten, none_decided, picked_decided, refused_decided}
use Rattle.resolvo_queue.proofs.Picks.Offers.{offered_registered}
use Rattle.resolvo_queue.proofs.decide_queue.DecideQueue.next_decision.Goals as goal

pub wake_due-requires-clause-numbers : goal.wake_due-requires-clause-numbers
wake_due-requires-clause-numbers g c = λ n d e.
    own_number c.self.inside.tracked.index.clauses.items c.self.invariant.0.order.located n d e

pub wake_due-requires-clause-chained : goal.wake_due-requires-clause-chained
wake_due-requires-clause-chained g c = c.self.invariant.0.order.chained

pub wake_due-requires-clause-first : goal.wake_due-requires-clause-first
wake_due-requires-clause-first g c = c.self.invariant.0.woken

-- some were woken, and then memory was refused
pub invariant_of-self : goal.invariant_of-self
invariant_of-self g c = (
  kept_still c.self.invariant.0 (order_grown refl refl refl refl c.wake_due.ensures.grows c.self.invariant.0.order)
      refl refl refl c.self.invariant.0.woken,
  c.self.invariant.1,
)

pub returns-in_err-wake_due-clause-stands : goal.returns-in_err-wake_due-clause-stands
returns-in_err-wake_due-clause-stands g c =
    let inside = c.self.inside in
    let before : Queue g.row.D-NameId.Denot g.row.D-NameId-Set.Denot =
    queue_of inside.tracked inside.names.items inside.hot_names inside.woken in
    let after : Queue g.row.D-NameId.Denot g.row.D-NameId-Set.Denot =
    queue_of (record inside.tracked { queued = c.wake_due.new.queued; noted = c.wake_due.new.noted })
    inside.names.items inside.hot_names inside.woken in
    let refs = references (g.D.Interner.universe c.args.provider.now) c.args.reader.now.lists c.args.disjunctions.now in
    stands_partly g.D.NameId.Set.IdSet.has refs before after c.self.invariant.0
    (subst (StandsOn refs) (sym c.self.view_is) c.requires.stands) refl refl refl (values_in c.args.map.now)
    (subst (IsSynced (values_in c.args.map.now)) (sym c.self.view_is) c.requires.synced) refl refl refl refl
    c.wake_due.ensures.grows c.wake_due.ensures.settles

pub returns-in_err-wake_due-clause-walks : goal.returns-in_err-wake_due-clause-walks
returns-in_err-wake_due-clause-walks g c = subst (λ (q : Queue g.row.D-NameId.Denot g.row.D-NameId-Set.Denot).
    WalksOnce q.inside.requirements c.self.inside.tracked.requirements c.args.reader.now.walked
    c.args.reader.now.walked) c.self.view_is (walks_nothing c.self.inside.tracked.requirements c.args.reader.now.walked)

pub returns-in_err-wake_due-clause-owed : goal.returns-in_err-wake_due-clause-owed
returns-in_err-wake_due-clause-owed g c =
    λ r. ap (λ (q : Queue g.row.D-NameId.Denot g.row.D-NameId-Set.Denot). owed q r) c.self.view_is

pub next_offer-requires-clause-decidable : goal.next_offer-requires-clause-decidable
next_offer-requires-clause-decidable g c =
    let inside = c.self.inside in
    let before : Queue g.row.D-NameId.Denot g.row.D-NameId-Set.Denot =
    queue_of inside.tracked inside.names.items inside.hot_names inside.woken in
    let after : Queue g.row.D-NameId.Denot g.row.D-NameId-Set.Denot =
    queue_of (record inside.tracked { queued = c.wake_due.new.queued; noted = c.wake_due.new.noted })
    inside.names.items inside.hot_names inside.woken in
    let refs = references (g.D.Interner.universe c.args.provider.now) c.args.reader.now.lists c.args.disjunctions.now in
    let stands : StandsOn refs before = subst (StandsOn refs) (sym c.self.view_is) c.requires.stands in
    record {
      located = c.self.invariant.0.order.located;
      first = c.self.invariant.0.order.first;
      inspectable = askable_tracked refs inside.tracked.index.clauses.items stands.parts
          (subst (λ (q : Queue g.row.D-NameId.Denot g.row.D-NameId-Set.Denot). All (CanWalk refs) q.clauses)
          (sym c.self.view_is) c.requires.walkable);
      listed = stands.listed;
      ready = ready_asked g.D.NameId.Set.IdSet.has refs before after c.self.invariant.0 stands refl refl refl
          (values_in c.args.map.now)
          (subst (IsSynced (values_in c.args.map.now)) (sym c.self.view_is) c.requires.synced)
          c.wake_due.ensures.grows c.wake_due.ensures.settles
          c.in_ok-wake_due.ensures.woken c.in_ok-wake_due.ensures.none;
    }

pub next_offer-requires-clause-cold : goal.next_offer-requires-clause-cold
next_offer-requires-clause-cold g c =
    let inside = c.self.inside in
    let before : Queue g.row.D-NameId.Denot g.row.D-NameId-Set.Denot =
    queue_of inside.tracked inside.names.items inside.hot_names inside.woken in
    let universe = g.D.Interner.universe c.args.provider.now in
    let refs = references universe c.args.reader.now.lists c.args.disjunctions.now in
    cold_without_score universe c.args.reader.now.lists (values_in c.args.map.now) (clause_literals refs)
    (g.D.NameId.Set.IdSet.has inside.hot_names)
    (g.D.NameId.Scores.IdMap.value_at c.args.scores.now) inside.tracked.index.clauses.items
    (cold_sets universe g.D.NameId.Set.IdSet.has before refl
    (subst (AreNamed universe) (sym c.self.view_is) c.requires.named) c.self.invariant.0)
    (subst (OnlyHotScore g.D.NameId.Set.IdSet.has (g.D.NameId.Scores.IdMap.value_at c.args.scores.now))
    (sym c.self.view_is) c.requires.hot)

pub invariant_of-self-2 : goal.invariant_of-self-2
invariant_of-self-2 g c =
    let walks = c.next_offer.ensures.walks in
    let len : c.len-self-inside.result ≡ length c.self.inside.tracked.index.clauses.items =
    c.len-self-inside.ensures ∙ c.self.inside.tracked.index.clauses.ok.0 in (
      kept_still c.self.invariant.0
          (order_asked (ap (λ ix. ix.clauses.items) walks.index) (ap (λ ix. ix.by_parent) walks.index)
          (ap (λ ix. ix.newest_under.items) walks.index) walks.found
          (ready_by walks.index c.next_offer.ensures.decidable) c.self.invariant.0.order)
          (ap (λ ix. ix.clauses.items) walks.index) refl refl
          (subst (λ k. k ≤ length c.self.inside.tracked.index.clauses.items) (sym len) (omega arith)),
      c.self.invariant.1,
    )

pub returns-clause-stands : goal.returns-clause-stands
returns-clause-stands g c =
    let inside = c.self.inside in
    let before : Queue g.row.D-NameId.Denot g.row.D-NameId-Set.Denot =
    queue_of inside.tracked inside.names.items inside.hot_names inside.woken in
    let after : Queue g.row.D-NameId.Denot g.row.D-NameId-Set.Denot =
    queue_of c.next_offer.new.tracked inside.names.items inside.hot_names c.len-self-inside.result in
    let len : c.len-self-inside.result ≡ length inside.tracked.index.clauses.items =
    c.len-self-inside.ensures ∙ inside.tracked.index.clauses.ok.0 in
    let refs = references (g.D.Interner.universe c.args.provider.now) c.args.reader.now.lists c.args.disjunctions.now in
    let index = c.next_offer.ensures.walks.index in
    let stands : StandsOn refs before = subst (StandsOn refs) (sym c.self.view_is) c.requires.stands in
    stands_asked g.D.NameId.Set.IdSet.has refs before after c.self.invariant.0 stands
    (ap (λ ix. map clause_of ix.clauses.items) index) (ap (λ ix. ix.clauses.items) index)
    (ap (λ ix. ix.conditions) index) (values_in c.args.map.now)
    (subst (IsSynced (values_in c.args.map.now)) (sym c.self.view_is) c.requires.synced)
    (ap (λ t. t.items) c.next_offer.ensures.walks.trail) len c.next_offer.ensures.decidable.listed
    (ready_by c.next_offer.ensures.walks.index c.next_offer.ensures.decidable)

pub returns-clause-picked : goal.returns-clause-picked
returns-clause-picked g c =
    let refs = references (g.D.Interner.universe c.args.provider.now) c.args.reader.now.lists c.args.disjunctions.now in
    let val = values_in c.args.map.now in
    let score = score_in refs (g.D.NameId.Scores.IdMap.value_at c.args.scores.now) in
    picked_decided c.next_offer.result c.decision_of.result _ _ c.decision_of.ensures c.next_offer.ensures.picked
    (ap pick (offered_registered val (literals_in refs) (rows_in refs) score c.self.inside.tracked.index.clauses.items)
    ∙ ap (λ (q : Queue g.row.D-NameId.Denot g.row.D-NameId-Set.Denot).
    pick (eligible val (literals_in refs) (rows_in refs) score q.clauses)) c.self.view_is)

pub returns-clause-none : goal.returns-clause-none
returns-clause-none g c =
    let refs = references (g.D.Interner.universe c.args.provider.now) c.args.reader.now.lists c.args.disjunctions.now in
    let val = values_in c.args.map.now in
    let score = score_in refs (g.D.NameId.Scores.IdMap.value_at c.args.scores.now) in
    IfOk-weaker c.decision_of.result _ _
    (none_decided val (literals_in refs) (rows_in refs) score c.args.self.now.clauses)
    (picked_decided c.next_offer.result c.decision_of.result _ _ c.decision_of.ensures c.next_offer.ensures.picked
    (ap pick (offered_registered val (literals_in refs) (rows_in refs) score c.self.inside.tracked.index.clauses.items)
    ∙ ap (λ (q : Queue g.row.D-NameId.Denot g.row.D-NameId-Set.Denot).
    pick (eligible val (literals_in refs) (rows_in refs) score q.clauses)) c.self.view_is))

pub returns-clause-unbeaten : goal.returns-clause-unbeaten
returns-clause-unbeaten g c =
    let refs = references (g.D.Interner.universe c.args.provider.now) c.args.reader.now.lists c.args.disjunctions.now in
    let val = values_in c.args.map.now in
    let score = score_in refs (g.D.NameId.Scores.IdMap.value_at c.args.scores.now) in
    IfOk-weaker c.decision_of.result _ _
    (decides_unbeaten (eligible val (literals_in refs) (rows_in refs) score c.args.self.now.clauses))
    (picked_decided c.next_offer.result c.decision_of.result _ _ c.decision_of.ensures c.next_offer.ensures.picked
    (ap pick (offered_registered val (literals_in refs) (rows_in refs) score c.self.inside.tracked.index.clauses.items)
    ∙ ap (λ (q : Queue g.row.D-NameId.Denot g.row.D-NameId-Set.Denot).
    pick (eligible val (literals_in refs) (rows_in refs) score q.clauses)) c.self.view_is))

pub returns-clause-memory : goal.returns-clause-memory
returns-clause-memory g c = refused_decided c.next_offer.result c.decision_of.result _ c.decision_of.ensures
    c.next_offer.ensures.memory

pub returns-clause-walks : goal.returns-clause-walks
returns-clause-walks g c = subst (λ (q : Queue g.row.D-NameId.Denot g.row.D-NameId-Set.Denot).
    WalksOnce q.inside.requirements c.next_offer.new.tracked.requirements c.args.reader.now.walked
    c.next_offer.new.reader.walked) c.self.view_is c.next_offer.ensures.walks.once

pub returns-clause-owed : goal.returns-clause-owed
returns-clause-owed g c = λ r. c.next_offer.ensures.walks.once.owed r ∙
    ap (λ (q : Queue g.row.D-NameId.Denot g.row.D-NameId-Set.Denot). owed q r) c.self.view_is

pub next_offer-requires-clause-largest : goal.next_offer-requires-clause-largest
next_offer-requires-clause-largest g c = grind (arith, common_steps)
