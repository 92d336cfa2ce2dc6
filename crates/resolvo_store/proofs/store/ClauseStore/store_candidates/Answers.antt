use Rattle.std.proofs.lemmas.Grind.{common_steps}
use Rattle.std.proofs.Common.{◌≡◌, ◌∷◌, ◌++◌, [], ◌∙◌, sym, ap, refl, subst, None, map, take, true, false, arith}
use Rattle.std.specs.Prelude.{All}
use Rattle.std.proofs.lemmas.List.Elements.{All-take}
use Rattle.solver_cache.proofs.CacheLemmas.{handed_on}
use Rattle.falsified_clauses.proofs.Laws.{counts_lists}
use Rattle.resolvo_store.proofs.Words.{AreCounted, HasMarks, interned_variable, IsConsistent, lacks_ids}
use Rattle.resolvo_store.proofs.Words.{lists_of_loaded, Load, lookup, may_be_refused, origins_loaded, Requirement}
use Rattle.resolvo_store.proofs.Words.{same_requirement, sets_of, sorted_of, sorted_of_set, Store, store_of, StoreState}
use Rattle.resolvo_store.proofs.Words.{variables_loaded}
use Rattle.resolvo_store.proofs.CountedLemmas.{keeps_counted}
use Rattle.resolvo_store.specs.Store.{Provider, gathered}
use Rattle.resolvo_store.proofs.LoadedInvariants.{after_variables, after_load, store_with}
use Rattle.resolvo_store.proofs.CallerLaws.{store_in, left_of}
use Rattle.resolvo_store.proofs.KnownLemmas.{IsLawful, IsKnownSolvable, all_known}
use Rattle.resolvo_store.proofs.ListLemmas.{insert-kept, items_of, lookup-none}
use Rattle.resolvo_store.proofs.LoadingLemmas.{lacks_nothing, load_refused}
use Rattle.resolvo_store.proofs.MarkedLaws.{marks_loaded}
use Rattle.resolvo_store.proofs.store.ClauseStore.store_candidates.Given.{Over}
use Rattle.resolvo_store.proofs.store.ClauseStore.store_candidates.Goals as goal

-- the provider's functions
abbrev given : (g : Over) → g.row.D.Denot → Provider g.row.D-NameId.Denot g.row.D-SolvableId.Denot
given g = gathered g.D.NameId.PartialEq.eq g.D.SolvableId.PartialEq.eq g.D.NameId.Slots.IdMap.is_too_large
    g.D.SolvableId.Slots.IdMap.is_too_large g.D.SolvableId.Set.IdSet.is_too_large g.D.NameId.SolverId.are_many
    g.D.Interner.universe g.D.DependencyProvider.answers

-- its laws
abbrev lawful : (g : Over) (p : g.row.D.Denot) → IsLawful (given g p)
lawful g p = record {
  reflexive = g.met.D.SolvableId.Eq.laws.refl;
  same = g.met.D.SolvableId.SameValue.same;
  same_names = g.met.D.NameId.SameValue.same;
  candidates = g.met.D.DependencyProvider.candidates_known p;
  order = g.met.D.DependencyProvider.order_permutes p;
}

-- the abstract store
abbrev store : (g : Over) → StoreState g.row.D.Denot g.row.D-NameId.Denot g.row.D-SolvableId.Denot
    g.row.D-NameId-Scores.Denot → Store g.row.D-NameId.Denot g.row.D-SolvableId.Denot
store g = store_of (given g) g.D.NameId.Scores.IdMap.value_at

-- the candidates of a requirement are known
candidates_known : (g : Over) (p : g.row.D.Denot) (r : Requirement) →
    All (IsKnownSolvable (g.D.Interner.universe p)) (sorted_of (given g p) r)
candidates_known g p r = all_known (given g p) (lawful g p) (sets_of (g.D.Interner.universe p) r)

-- a beginning of the candidates have variables
pub invariant_of-self : goal.invariant_of-self
invariant_of-self g c =
    let inside = c.self.inside in
    let got = c.in_err-lists.ensures.refused.part in
    record {
      consistent = after_variables (given g) g.D.NameId.Scores.IdMap.value_at g.D.SolvableId.Set.IdSet.has
          g.D.NameId.Set.IdSet.has (left_of c.self.view_is) inside.variables inside.loaded inside.disjunctions
          inside.queue inside.trail inside.cache c.load_lists.new.cache c.in_err-lists.ensures.refused.later
          c.self.invariant.consistent (lawful g inside.cache.provider)
          (take got.0 (sorted_of (given g inside.cache.provider) c.args.requirement)) c.load_lists.new.variables
          (All-take (IsKnownSolvable (g.D.Interner.universe inside.cache.provider)) got.0 _
          (candidates_known g inside.cache.provider c.args.requirement)) got.1;
      counted = c.self.invariant.counted;
      marked = c.self.invariant.marked;
    }

-- all of them have
pub invariant_of-self-in_err-reply : goal.invariant_of-self-in_err-reply
invariant_of-self-in_err-reply g c =
    let inside = c.self.inside in
    record {
      consistent = after_variables (given g) g.D.NameId.Scores.IdMap.value_at g.D.SolvableId.Set.IdSet.has
          g.D.NameId.Set.IdSet.has (left_of c.self.view_is) inside.variables inside.loaded inside.disjunctions
          inside.queue inside.trail inside.cache c.load_lists.new.cache c.in_ok-lists.ensures.loaded.later
          c.self.invariant.consistent (lawful g inside.cache.provider)
          (sorted_of (given g inside.cache.provider) c.args.requirement) c.load_lists.new.variables
          (candidates_known g inside.cache.provider c.args.requirement) c.in_ok-lists.ensures.loaded.interned;
      counted = c.self.invariant.counted;
      marked = c.self.invariant.marked;
    }

pub invariant_of-self-in_err-insert : goal.invariant_of-self-in_err-insert
invariant_of-self-in_err-insert g c =
    let inside = c.self.inside in
    let new = c.load_lists.new.cache in
    record {
      consistent = subst (λ kept. IsConsistent g.D.NameId.Set.IdSet.has
          (store_with (given g) g.D.NameId.Scores.IdMap.value_at (left_of c.self.view_is) new.provider
          c.load_lists.new.variables kept) kept inside.disjunctions new inside.queue inside.trail)
          (sym c.in_err-insert.ensures.err.1)
          (after_variables (given g) g.D.NameId.Scores.IdMap.value_at g.D.SolvableId.Set.IdSet.has
          g.D.NameId.Set.IdSet.has (left_of c.self.view_is) inside.variables inside.loaded inside.disjunctions
          inside.queue inside.trail inside.cache new c.in_ok-lists.ensures.loaded.later
          c.self.invariant.consistent (lawful g inside.cache.provider)
          (sorted_of (given g inside.cache.provider) c.args.requirement) c.load_lists.new.variables
          (candidates_known g inside.cache.provider c.args.requirement) c.in_ok-lists.ensures.loaded.interned);
      counted = subst (λ kept. AreCounted inside.falsified inside.queue.clauses inside.trail.entries kept
          inside.disjunctions)
          (sym c.in_err-insert.ensures.err.1) c.self.invariant.counted;
      marked = subst (λ kept. HasMarks (store_with (given g) g.D.NameId.Scores.IdMap.value_at
          (left_of c.self.view_is) new.provider c.load_lists.new.variables kept) inside.marks)
          (sym c.in_err-insert.ensures.err.1) c.self.invariant.marked;
    }

-- and their lists are kept
pub invariant_of-self-2 : goal.invariant_of-self-2
invariant_of-self-2 g c =
    let inside = c.self.inside in
    let r = c.args.requirement in
    let fresh : lookup (same_requirement r) (lists_of_loaded inside.loaded) ≡ None =
    subst (λ kept. lookup (same_requirement r) kept.loaded ≡ None) (sym c.self.view_is) c.requires.new in
    record {
      consistent = after_load (given g) g.D.NameId.Scores.IdMap.value_at g.D.SolvableId.Set.IdSet.has
          g.D.NameId.Set.IdSet.has (left_of c.self.view_is) inside.variables inside.loaded inside.disjunctions
          inside.queue inside.trail inside.cache c.load_lists.new.cache c.in_ok-lists.ensures.loaded.later
          c.self.invariant.consistent (lawful g inside.cache.provider) r
          c.load_lists.new.variables c.in_ok-lists.lists
          c.insert.new.self
          (candidates_known g inside.cache.provider r) fresh c.in_ok-lists.ensures.loaded.interned
          c.in_ok-lists.ensures.loaded.of_variables
          c.in_ok-lists.ensures.small c.in_ok-lists.ensures.loaded.queried (record {
            names = c.in_ok-lists.ensures.loaded.names_fit;
            solvables = c.in_ok-lists.ensures.loaded.fit;
          }) c.in_ok-insert.ensures.ok;
      counted = subst (λ kept. AreCounted inside.falsified inside.queue.clauses inside.trail.entries kept
          inside.disjunctions)
          (sym c.in_ok-insert.ensures.ok) (keeps_counted refl (λ h. record {
            within = h.within;
            counts = counts_lists inside.falsified.clauses _ h.counts r c.in_ok-lists.lists
                (lookup-none inside.loaded r fresh);
          }) c.self.invariant.counted);
      marked = marks_loaded (store_in c.self.invariant.consistent.sound) inside.marks c.self.invariant.marked
          inside.loaded r c.in_ok-lists.lists fresh refl c.in_ok-insert.ensures.ok;
    }

pub returns-clause-lists : goal.returns-clause-lists
returns-clause-lists g c =
    let r = c.args.requirement in
    let p = given g c.self.inside.cache.provider in
    λ is_copied. subst (λ kept. items_of c.in_ok-reply.reply ≡ variables_loaded (store g kept) r) c.self.view_is
    (c.in_ok-reply.ensures.ok is_copied ∙ c.in_ok-lists.ensures.loaded.of_variables
    ∙ ap (λ os. map (λ v. map (interned_variable g.D.SolvableId.PartialEq.eq os) (sorted_of_set p v))
    (sets_of p.universe r)) c.in_ok-lists.ensures.loaded.interned)

pub returns-clause-ok : goal.returns-clause-ok
returns-clause-ok g c =
    let inside = c.self.inside in
    let r = c.args.requirement in
    let p = given g inside.cache.provider in
    let new = c.load_lists.new.cache in
    let was = left_of c.self.view_is in
    let fresh : lookup (same_requirement r) (lists_of_loaded inside.loaded) ≡ None =
    subst (λ kept. lookup (same_requirement r) kept.loaded ≡ None) (sym c.self.view_is) c.requires.new in
    let lists : items_of c.in_ok-lists.lists ≡ variables_loaded (store g was) r =
    c.in_ok-lists.ensures.loaded.of_variables
    ∙ ap (λ os. map (λ v. map (interned_variable g.D.SolvableId.PartialEq.eq os) (sorted_of_set p v))
    (sets_of p.universe r)) c.in_ok-lists.ensures.loaded.interned in
    let loaded : lists_of_loaded c.insert.new.self ≡ lists_of_loaded inside.loaded ++ (
      r,
      variables_loaded (store g was) r,
    ) ∷ [] =
    ap lists_of_loaded c.in_ok-insert.ensures.ok ∙ insert-kept inside.loaded r c.in_ok-lists.lists fresh
    ∙ ap (λ ls. lists_of_loaded inside.loaded ++ (r, ls) ∷ []) lists in
    let Made : StoreState g.row.D.Denot g.row.D-NameId.Denot g.row.D-SolvableId.Denot g.row.D-NameId-Scores.Denot →
    Type 0 = λ kept.
    ◌≡◌ {A = StoreState g.row.D.Denot g.row.D-NameId.Denot g.row.D-SolvableId.Denot g.row.D-NameId-Scores.Denot}
    (record was {
      provider = new.provider;
      origins = c.load_lists.new.variables;
      loaded =
          lists_of_loaded c.insert.new.self;
    })
    (record kept {
      origins = origins_loaded (store g kept) r;
      loaded =
          kept.loaded ++ (r, variables_loaded (store g kept) r) ∷ [];
    }) in
    subst Made c.self.view_is
    (ap (λ q. record was {
      provider = q;
      origins = c.load_lists.new.variables;
      loaded =
          lists_of_loaded c.insert.new.self;
    }) c.in_ok-lists.ensures.loaded.later.provider
    ∙ ap (λ os. record was { origins = os; loaded = lists_of_loaded c.insert.new.self })
    c.in_ok-lists.ensures.loaded.interned
    ∙ ap (λ ls. record was { origins = origins_loaded (store_in c.self.invariant.consistent.sound) r; loaded = ls })
    loaded)

pub returns-clause-fit : goal.returns-clause-fit
returns-clause-fit g c =
    let inside = c.self.inside in
    let r = c.args.requirement in
    subst (λ kept. lacks_ids (store g kept) (Load r) ≡ false) c.self.view_is
    (lacks_nothing (store_in c.self.invariant.consistent.sound) r c.in_ok-lists.ensures.loaded.names_fit
    c.in_ok-lists.ensures.small c.in_ok-lists.ensures.fit)

pub returns-in_err-lists-clause-refused : goal.returns-in_err-lists-clause-refused
returns-in_err-lists-clause-refused g c =
    let inside = c.self.inside in
    let r = c.args.requirement in
    let e = c.in_err-lists.field-0.0 in
    let fresh : lookup (same_requirement r) (lists_of_loaded inside.loaded) ≡ None =
    subst (λ kept. lookup (same_requirement r) kept.loaded ≡ None) (sym c.self.view_is) c.requires.new in
    handed_on _ c.from_residual.result e c.from_residual.ensures.1
    (subst (λ kept. may_be_refused (store g kept) (Load r) e ≡ true) c.self.view_is
    (load_refused (store_in c.self.invariant.consistent.sound) r inside.cache c.load_lists.new.cache
    g.met.D.NameId.SameValue.same c.self.invariant.consistent.through.queried fresh e
    c.in_err-lists.ensures.refused.reason))

pub returns-in_err-reply-clause-front : goal.returns-in_err-reply-clause-front
returns-in_err-reply-clause-front g c = grind (arith, common_steps)

pub returns-in_err-insert-clause-front : goal.returns-in_err-insert-clause-front
returns-in_err-insert-clause-front g c = grind (arith, common_steps)

pub returns-clause-front : goal.returns-clause-front
returns-clause-front g c = grind (arith, common_steps)
