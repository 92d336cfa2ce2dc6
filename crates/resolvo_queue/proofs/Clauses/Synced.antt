-- A queue after a sync, and at and after a question.
use Rattle.std.proofs.Common.{◌≡◌, ℕ, ◌≤◌, Bool, true, false, inl, inr}
use Rattle.std.proofs.Common.{List, ◌++◌, map, take, drop, length, Some, Result, Ok, Err, OnOk}
use Rattle.std.proofs.Common.{slice_get, sym, ap, refl, ◌∙◌, subst}
use Rattle.std.specs.Prelude.{All, OnErr}
use Rattle.std.proofs.lemmas.List.{take-take}
use Rattle.resolvo_queue.proofs.Words.{AgreesBelow, AllWokenFrom, AreCold, clause_literals, clause_of, counts, Decision}
use Rattle.resolvo_queue.proofs.Words.{FindsAll, GrowsBy, has, HasParts, is_among, IsInOrder, IsWellFormed}
use Rattle.resolvo_queue.proofs.Words.{clauses_at, is_noted, IsConditionOf, IsListedWell, Settles, IsOfClause}
use Rattle.resolvo_queue.proofs.Words.{IsPlaceOf, IsReady, KeepsQueued, known_true, list_at, Listed, listing, Lit}
use Rattle.resolvo_queue.proofs.Words.{OnlyForgets, Position, Queue, Record, References, Requirement, Row}
use Rattle.resolvo_queue.proofs.Words.{SameElsewhere, SameFound, SameValues, Stands, StandsOn, SyncsTo, TrackedClause}
use Rattle.resolvo_queue.proofs.Words.{Tracking, Values, values_of, variable_of, variables_of}
use Rattle.resolvo_queue.specs.Queue.{IsSynced as IsSyncedAt}
use Rattle.resolvo_queue.specs.References.{rows_in}
use Rattle.resolvo_queue.proofs.Clauses.Counts.{counts_parent, settled, woken_all}
use Rattle.resolvo_queue.proofs.Rows.Listing.{listed_after_sync, lists_known}
use Rattle.resolvo_queue.proofs.Syncs.Queued.{grows_none}
use Rattle.resolvo_queue.proofs.Syncs.Same.{synced_same}
use Rattle.resolvo_queue.proofs.Syncs.Trails.{sync_values}
use Rattle.resolvo_queue.proofs.Lists.{differ}
use Rattle.resolvo_queue.proofs.Syncs.Forgetting.{clauses_stay, placed_after}

-- ---- after a sync

-- what always holds stays where the clauses stay, whatever is queued and known of them
pub order_stays : (t u : Tracking) → u.clauses ≡ t.clauses → u.by_parent ≡ t.by_parent →
    u.newest_under ≡ t.newest_under → SameFound t.requirements u.requirements →
    ((n : ℕ) (c : TrackedClause) → slice_get t.clauses n ≡ Some c → IsPlaceOf u.requirements c.requirement c.record) →
    ((p : Position) → has u.queued.all p ≡ true → IsOfClause t.clauses p) →
    ((p : Position) → has u.queued.hot p ≡ true → IsOfClause t.clauses p) → IsInOrder t → IsInOrder u
order_stays t u clauses by_parent newest_under found placed all hot order =
    subst (λ (x : List TrackedClause × List (List ℕ) × List ℕ). IsInOrder (record {
      clauses = x.0;
      by_parent = x.1;
      newest_under = x.2;
      conditions = u.conditions;
      requirements = u.requirements;
      occurrences = u.occurrences;
      queued = u.queued;
      noted = u.noted;
    })) (λ i. (sym clauses i, sym by_parent i, sym newest_under i)) (record {
      few = order.few;
      located = order.located;
      first = order.first;
      parents = order.parents;
      chained = order.chained;
      requirements = λ n c e. subst (Stands n) (sym (found c.record)) (order.requirements n c e);
      placed = placed;
      all_of = all;
      hot_of = hot;
    })

-- where more are queued
pub order_grown : {t u : Tracking} → u.clauses ≡ t.clauses → u.by_parent ≡ t.by_parent →
    u.newest_under ≡ t.newest_under → u.requirements ≡ t.requirements →
    GrowsBy (IsOfClause t.clauses) t.queued u.queued → IsInOrder t → IsInOrder u
order_grown {t} {u} clauses by_parent newest_under requirements grows order =
    order_stays t u clauses by_parent newest_under (λ k. ap (λ ts. clauses_at ts k) requirements)
    (λ n c e. subst (λ ts. IsPlaceOf ts c.requirement c.record) (sym requirements) (order.placed n c e))
    (λ p h. elim (grows.all_new p h) [ inl was ↦ order.all_of p was | inr new ↦ new ])
    (λ p h. elim (grows.hot_new p h) [ inl was ↦ order.hot_of p was | inr new ↦ new ]) order

pub order_after_sync : {t u : Tracking} → u.clauses ≡ t.clauses → u.by_parent ≡ t.by_parent →
    u.newest_under ≡ t.newest_under → OnlyForgets t.requirements u.requirements →
    GrowsBy (IsOfClause t.clauses) t.queued u.queued → IsInOrder t → IsInOrder u
order_after_sync {t} {u} clauses by_parent newest_under only grows order =
    order_stays t u clauses by_parent newest_under (clauses_stay t.requirements u.requirements only)
    (λ n c e. placed_after t.requirements u.requirements only c.requirement c.record (order.placed n c e))
    (λ p e. elim (grows.all_new p e) [ inl was ↦ order.all_of p was | inr new ↦ new ])
    (λ p e. elim (grows.hot_new p e) [ inl was ↦ order.hot_of p was | inr new ↦ new ]) order

module _ {N S A H : Type 0} (has : H → N → Bool) (refs : References N S A) (q q' : Queue N H)
    (kept : IsWellFormed has q)
    (stands : StandsOn refs q) (whole : q'.clauses ≡ q.clauses) (clauses : q'.inside.clauses ≡ q.inside.clauses)
    (conditions : q'.inside.conditions ≡ q.inside.conditions) where
  abbrev cs : List TrackedClause
  cs = q.inside.clauses

  abbrev literals : TrackedClause → List Lit
  literals = clause_literals refs

  -- what a call leaves that changes no clause
  still_stands : IsListedWell refs.lists q'.inside.occurrences q'.inside.requirements →
      (q'.must_start_anew ≡ false → KeepsQueued cs literals (rows_in refs) (values_of q'.trail)
      (counts (values_of q'.trail) q'.woken q'.inside.noted) q'.inside.requirements q'.inside.queued) → StandsOn refs q'
  still_stands listed synced = record {
    clauses = whole ∙ (stands.clauses ∙ ap (map clause_of) (sym clauses));
    parts = subst (All (HasParts refs)) (sym whole) stands.parts;
    conditions = λ n c e l s. subst (λ lists. IsConditionOf (list_at lists (variable_of l)) c.condition)
        (sym conditions)
        (stands.conditions n c (subst (λ xs. slice_get xs n ≡ Some c) clauses e) l s);
    listed = listed;
    synced = λ accepted. subst (λ xs. KeepsQueued xs literals (rows_in refs) (values_of q'.trail)
        (counts (values_of q'.trail) q'.woken q'.inside.noted) q'.inside.requirements q'.inside.queued) (sym clauses)
        (synced accepted);
  }

  -- a sync that is refused
  stands_behind : q'.inside.occurrences ≡ q.inside.occurrences →
      OnlyForgets q.inside.requirements q'.inside.requirements → q'.must_start_anew ≡ true → StandsOn refs q'
  stands_behind occurrences only anew = still_stands
      (subst (λ o. IsListedWell refs.lists o q'.inside.requirements) (sym occurrences)
      (listed_after_sync refs.lists q.inside.occurrences q.inside.requirements q'.inside.requirements
      only stands.listed)) (λ accepted. absurd (differ (sym anew ∙ accepted)))

  module _ (floor f : ℕ) (entries : List Decision) (now : Values) (less : f ≤ floor)
      (agrees : q.must_start_anew ≡ false → AgreesBelow floor entries q)
      (values : SameValues (values_of entries) now) where
    abbrev routed : List ℕ
    routed = variables_of (drop f q.trail) ++ variables_of (drop f entries)

    was_synced : q.must_start_anew ≡ false → SameElsewhere (is_among routed) (values_of q.trail) now
        × KeepsQueued cs literals (rows_in refs) (values_of q.trail)
        (counts (values_of q.trail) q.woken q.inside.noted) q.inside.requirements q.inside.queued
    was_synced accepted = (
      sync_values f q.trail entries now values
          (sym (take-take f floor q.trail less) ∙ (ap (take f) (agrees accepted) ∙ take-take f floor entries less)),
      stands.synced accepted,
    )

    -- an accepted sync
    stands_synced : q'.inside.occurrences ≡ q.inside.occurrences →
        OnlyForgets q.inside.requirements q'.inside.requirements →
        SyncsTo cs q.inside.by_parent q.inside.conditions (listing q.inside.occurrences) q.woken q.must_start_anew
        (values_of q.trail) now routed q.inside.requirements q'.inside.requirements q.inside.queued q'.inside.queued
        q.inside.noted q'.inside.noted → q'.trail ≡ entries → q'.woken ≡ q.woken → StandsOn refs q'
    stands_synced occurrences only syncs trail woken = still_stands
        (subst (λ o. IsListedWell refs.lists o q'.inside.requirements) (sym occurrences)
        (listed_after_sync refs.lists q.inside.occurrences q.inside.requirements q'.inside.requirements
        only stands.listed))
        (λ accepted. subst (λ (x : Values × ℕ). KeepsQueued cs literals (rows_in refs) x.0
        (counts x.0 x.1 q'.inside.noted) q'.inside.requirements q'.inside.queued)
        (λ i. (at_trail i, sym woken i)) at_now)
      where
        finds : FindsAll cs literals q.inside.by_parent q.inside.conditions q.inside.requirements
        finds = record {
          parents = kept.order.parents;
          conditions = stands.conditions;
          requirements = kept.order.requirements;
        }

        at_now : KeepsQueued cs literals (rows_in refs) now (counts now q.woken q'.inside.noted)
            q'.inside.requirements q'.inside.queued
        at_now = syncs literals (rows_in refs) finds
            (lists_known refs.universe refs.lists q.inside.occurrences q.inside.requirements stands.listed) was_synced

        at_trail : now ≡ values_of q'.trail
        at_trail = λ i x. (values x ∙ ap (λ ds. values_of ds x) (sym trail)) i

    -- accepted or refused
    pub stands_after : {T E : Type 0} (result : Result T E) → q'.inside.occurrences ≡ q.inside.occurrences →
        OnlyForgets q.inside.requirements q'.inside.requirements →
        OnOk result (SyncsTo cs q.inside.by_parent q.inside.conditions (listing q.inside.occurrences)
        q.woken q.must_start_anew (values_of q.trail) now routed
        q.inside.requirements q'.inside.requirements q.inside.queued q'.inside.queued
        q.inside.noted q'.inside.noted) →
        OnOk result (q'.trail ≡ entries) → OnErr result (q'.must_start_anew ≡ true) → q'.woken ≡ q.woken →
        StandsOn refs q'
    stands_after (Ok x) occurrences only syncs trail refused woken = stands_synced occurrences only syncs trail woken
    stands_after (Err e) occurrences only syncs trail refused woken = stands_behind occurrences only refused

  -- ---- at a question

  module _ (val : Values) (synced : IsSyncedAt val q) where
    same_values : values_of q.trail ≡ val
    same_values = λ i x. sym (synced.trail x) i

    -- once those that came are woken, and no condition is noted
    pub ready_asked : GrowsBy (IsOfClause cs) q.inside.queued q'.inside.queued →
        Settles cs refs.disjunctions val q.inside.noted q'.inside.noted q'.inside.queued →
        AllWokenFrom q.woken cs val q'.inside.queued → ((d : ℕ) → is_noted q'.inside.noted d ≡ false) →
        IsReady cs literals (rows_in refs) val q.inside.requirements q'.inside.queued
    ready_asked grows settles came none = record {
      synced = woken_all val cs kept.order.located literals (rows_in refs) q.woken q'.inside.noted
          q.inside.requirements q'.inside.queued came none
          (settled refs val cs (rows_in refs) q.woken q.inside.noted q'.inside.noted
          q.inside.requirements q.inside.queued q'.inside.queued grows
          settles
          (subst (λ v. KeepsQueued cs literals (rows_in refs) v (counts v q.woken q.inside.noted) q.inside.requirements
          q.inside.queued) same_values (stands.synced synced.accepted)));
      placed = kept.order.placed;
      all_of = λ p h. elim (grows.all_new p h) [ inl was ↦ kept.order.all_of p was | inr new ↦ new ];
      hot_of = λ p h. elim (grows.hot_new p h) [ inl was ↦ kept.order.hot_of p was | inr new ↦ new ];
    }

    -- and after it
    pub stands_asked : q'.trail ≡ q.trail → q'.woken ≡ length cs →
        IsListedWell refs.lists q'.inside.occurrences q'.inside.requirements →
        IsReady cs literals (rows_in refs) val q'.inside.requirements q'.inside.queued → StandsOn refs q'
    stands_asked trail woken listed ready = still_stands listed
        (λ accepted. subst (λ (x : Values × ℕ). KeepsQueued cs literals (rows_in refs) x.0
        (counts x.0 x.1 q'.inside.noted) q'.inside.requirements q'.inside.queued)
        (λ i. ((sym same_values ∙ ap values_of (sym trail)) i, sym woken i))
        (synced_same cs literals literals (λ n c e. refl) (rows_in refs) (rows_in refs) val
        (λ c. known_true (val c.parent)) (counts val (length cs) q'.inside.noted)
        q'.inside.requirements q'.inside.requirements (λ p. ⊥) q'.inside.queued q'.inside.queued
        (λ n c e. counts_parent val (length cs) q'.inside.noted c) (λ k. refl) (λ k h. refl)
        (grows_none (λ p. ⊥) q'.inside.queued) ready.synced))

    -- where some were woken, and then memory was refused
    pub stands_partly : q'.trail ≡ q.trail → q'.woken ≡ q.woken → q'.inside.occurrences ≡ q.inside.occurrences →
        q'.inside.requirements ≡ q.inside.requirements → GrowsBy (IsOfClause cs) q.inside.queued q'.inside.queued →
        Settles cs refs.disjunctions val q.inside.noted q'.inside.noted q'.inside.queued → StandsOn refs q'
    stands_partly trail woken occurrences records grows settles = still_stands
        (subst (λ (x : Listed × List Record). IsListedWell refs.lists x.0 x.1) (λ i.
        (sym occurrences i, sym records i)) stands.listed)
        (λ accepted. subst (λ (x : (Values × ℕ) × List Record). KeepsQueued cs literals (rows_in refs)
        x.0.0 (counts x.0.0 x.0.1 q'.inside.noted) x.1 q'.inside.queued)
        (λ i. (((sym same_values ∙ ap values_of (sym trail)) i, sym woken i), sym records i))
        (settled refs val cs (rows_in refs) q.woken q.inside.noted q'.inside.noted
        q.inside.requirements q.inside.queued q'.inside.queued grows
        settles
        (subst (λ v. KeepsQueued cs literals (rows_in refs) v (counts v q.woken q.inside.noted) q.inside.requirements
        q.inside.queued) same_values (stands.synced synced.accepted))))

-- what always holds of what is kept, after a question
pub order_asked : {t u : Tracking} {literals : TrackedClause → List Lit} {rows_of : Requirement → List Row}
    {values : Values} → u.clauses ≡ t.clauses → u.by_parent ≡ t.by_parent → u.newest_under ≡ t.newest_under →
    SameFound t.requirements u.requirements → IsReady t.clauses literals rows_of values u.requirements u.queued →
    IsInOrder t → IsInOrder u
order_asked {t} {u} clauses by_parent newest_under found ready order =
    order_stays t u clauses by_parent newest_under found ready.placed ready.all_of ready.hot_of order

-- what always holds of a queue, where a sync or a question left its clauses
pub kept_still : {N H : Type 0} {has : H → N → Bool} {q q' : Queue N H} → IsWellFormed has q → IsInOrder q'.inside →
    q'.inside.clauses ≡ q.inside.clauses → q'.names ≡ q.names → q'.hot ≡ q.hot →
    q'.woken ≤ length q.inside.clauses → IsWellFormed has q'
kept_still {N} {H} {has} {q} {q'} kept order clauses names hot woken = record {
  order = order;
  names = ap length names ∙ (kept.names ∙ ap length (sym clauses));
  woken = subst (λ cs. q'.woken ≤ length cs) (sym clauses) woken;
  cold = subst (λ (x : (H × List (List N)) × List TrackedClause). AreCold (has x.0.0) x.0.1 x.1) (λ i.
      ((sym hot i, sym names i), sym clauses i)) kept.cold;
}
