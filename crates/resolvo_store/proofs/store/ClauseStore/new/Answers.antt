use Rattle.std.proofs.Common.{rules, refl, subst, sym, [], arith}
use Rattle.resolvo_store.proofs.Words.{AreCounted, Clauses, IsConsistent, IsSound, lists_of_loaded, queue_state_of}
use Rattle.resolvo_store.proofs.Words.{store_of, stored_disjunctions, StoreState}
use Rattle.resolvo_store.proofs.CountedLemmas.{none_counted}
use Rattle.resolvo_store.specs.Store.{Provider, gathered}
use Rattle.resolvo_store.proofs.PartOutcomes.{with_list, new_may_ask}
use Rattle.resolvo_store.proofs.SoundSteps.{IsSound-new_store}
use Rattle.resolvo_store.proofs.store.ClauseStore.new.Given.{Over}
use Rattle.resolvo_store.proofs.store.ClauseStore.new.Goals as goal

-- the provider's functions
abbrev given : (g : Over) → g.row.D.Denot → Provider g.row.D-NameId.Denot g.row.D-SolvableId.Denot
given g = gathered g.D.NameId.PartialEq.eq g.D.SolvableId.PartialEq.eq g.D.NameId.Slots.IdMap.is_too_large
    g.D.SolvableId.Slots.IdMap.is_too_large g.D.SolvableId.Set.IdSet.is_too_large g.D.NameId.SolverId.are_many
    g.D.Interner.universe g.D.DependencyProvider.answers

pub invariant_of-result : goal.invariant_of-result
invariant_of-result g c =
    let kept : StoreState g.row.D.Denot g.row.D-NameId.Denot g.row.D-SolvableId.Denot g.row.D-NameId-Scores.Denot =
    record {
      provider = c.new-3.result.provider;
      origins = c.in_ok-variables.variables;
      loaded = lists_of_loaded c.new-4.result;
      disjunctions = stored_disjunctions c.new-5.result;
      learnt = [];
      clauses = [];
      records = [];
      lists = c.in_ok-clauses.clauses.lists;
      requires = c.new-6.result.clauses;
      trail = c.new-8.result.entries;
      place = c.new-8.result.place;
      trackers = c.new-10.result;
      scores = c.new-11.result.map;
      queue_state = queue_state_of c.new-6.result c.new-8.result;
    } in
    record {
      consistent = subst (λ (cs : Clauses g.row.D-NameId.Denot). IsConsistent g.D.NameId.Set.IdSet.has
          (with_list (store_of (given g) g.D.NameId.Scores.IdMap.value_at kept) cs) c.new-4.result c.new-5.result
          c.new-3.result c.new-6.result c.new-8.result) (sym c.in_ok-clauses.ensures.ok)
          (rw (
            c.in_ok-variables.ensures.ok,
            c.new-3.ensures.provider,
            c.new-4.ensures,
            c.new-5.ensures,
            c.new-6.ensures.new.clauses,
            c.new-8.ensures,
            c.new-10.ensures,
            c.new-11.ensures,
          )
          (record {
            few = search rules;
            known = search rules;
            sound = IsSound-new_store _;
            through = record { queried = search rules; fit = search rules; candidates = search rules };
            may_decide = new_may_ask c.new-6.result _ _ c.new-6.ensures.new c.new-6.ensures.stands refl;
          }));
      counted = subst (λ rs. AreCounted c.new-7.result rs c.new-8.result.entries c.new-4.result c.new-5.result)
          (sym c.new-6.ensures.new.clauses)
          (none_counted c.new-7.result c.new-8.result.entries c.new-7.ensures.none.0 c.new-7.ensures.none.1
          (c.new-7.ensures.clauses c.new-4.result c.new-5.result));
      marked = rw c.new-9.ensures (λ k d h. absurd (omega (arith, h)));
    }

pub returns-clause-sound : goal.returns-clause-sound
returns-clause-sound g c =
    let kept : StoreState g.row.D.Denot g.row.D-NameId.Denot g.row.D-SolvableId.Denot g.row.D-NameId-Scores.Denot =
    record {
      provider = c.new-3.result.provider;
      origins = c.in_ok-variables.variables;
      loaded = lists_of_loaded c.new-4.result;
      disjunctions = stored_disjunctions c.new-5.result;
      learnt = [];
      clauses = [];
      records = [];
      lists = c.in_ok-clauses.clauses.lists;
      requires = c.new-6.result.clauses;
      trail = c.new-8.result.entries;
      place = c.new-8.result.place;
      trackers = c.new-10.result;
      scores = c.new-11.result.map;
      queue_state = queue_state_of c.new-6.result c.new-8.result;
    } in
    subst (λ (cs : Clauses g.row.D-NameId.Denot). IsSound (with_list
    (store_of (given g) g.D.NameId.Scores.IdMap.value_at kept) cs)) (sym c.in_ok-clauses.ensures.ok)
    (rw (
      c.in_ok-variables.ensures.ok,
      c.new-3.ensures.provider,
      c.new-4.ensures,
      c.new-5.ensures,
      c.new-6.ensures.new.clauses,
      c.new-8.ensures,
      c.new-10.ensures,
      c.new-11.ensures,
    ) (IsSound-new_store _))
