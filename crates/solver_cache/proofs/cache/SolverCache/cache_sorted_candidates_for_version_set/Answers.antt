use Rattle.std.proofs.lemmas.Grind.{common_steps}
use Rattle.std.proofs.Common.{◌≡◌, ◌∙◌, Some, true, false, ap, subst, sym, true≢false, inl, inr, arith}
use Rattle.solver_cache.proofs.Words.{favored_first, gathered, is_cached, is_set_queried, IsLater, IsMatched, lookup}
use Rattle.solver_cache.proofs.Words.{Provider, same_requirement, Single, sorted, Store}
use Rattle.solver_cache.proofs.CacheLemmas.{found_single, handed_on, later_same, more_list, more_sorted}
use Rattle.solver_cache.proofs.CacheLemmas.{once_kept, once_new, right_single, same_is, value_last}
use Rattle.solver_cache.proofs.UnionLemmas.{none_of}
use Rattle.solver_cache.proofs.FilteringLemmas.{memory_refused}
use Rattle.solver_cache.proofs.SortingLemmas.{later_sorted, matched_sorted, not_kept}
use Rattle.solver_cache.proofs.cache.SolverCache.cache_sorted_candidates_for_version_set.Given.{Over}
use Rattle.solver_cache.proofs.cache.SolverCache.cache_sorted_candidates_for_version_set.Goals as goal

-- the provider's functions
abbrev provided : (g : Over) → g.row.D.Denot → Provider g.row.D-NameId.Denot g.row.D-SolvableId.Denot
provided g = gathered g.D.NameId.PartialEq.eq g.D.SolvableId.PartialEq.eq g.D.NameId.Slots.IdMap.is_too_large
    g.D.SolvableId.Slots.IdMap.is_too_large g.D.SolvableId.Set.IdSet.is_too_large g.D.NameId.SolverId.are_many
    g.D.Interner.universe g.D.DependencyProvider.answers

-- what is kept

pub returns-in-Some-clause-answered : goal.returns-in-Some-clause-answered
returns-in-Some-clause-answered g c =
    let cached = c.self.inside.sorted in
    let alike = same_is (Single c.args.set) in
    let is_there : is_cached (same_requirement (Single c.args.set)) cached ≡ true =
    ap (λ t. is_cached t cached) (sym alike) ∙ sym c.in-Some.ensures.found in
    let found = found_single _ _ c.self.invariant c.args.set c.in-Some.place is_there (c.in-Some.ensures.list
    ∙ ap (λ t. lookup t cached) alike) in
    rw (sym c.self.view_is) (record {
      sorted = once_kept _ _ _ is_there;
      list = found.0;
      later = later_same _ _;
      queried = found.1;
    })

-- only what isn't kept is refused

pub returns-in_err-id-in-None-clause-cached : goal.returns-in_err-id-in-None-clause-cached
returns-in_err-id-in-None-clause-cached g c = λ cached.
    absurd (true≢false (sym cached ∙ rw (sym c.self.view_is)
    (not_kept (Single c.args.set) c.self.inside.sorted c.in-None.ensures.found)))

pub returns-in_err-list-in-None-clause-cached : goal.returns-in_err-list-in-None-clause-cached
returns-in_err-list-in-None-clause-cached g c = λ cached.
    absurd (true≢false (sym cached ∙ rw (sym c.self.view_is)
    (not_kept (Single c.args.set) c.self.inside.sorted c.in-None.ensures.found)))

pub returns-in_err-place-in-None-clause-cached : goal.returns-in_err-place-in-None-clause-cached
returns-in_err-place-in-None-clause-cached g c = λ cached.
    absurd (true≢false (sym cached ∙ rw (sym c.self.view_is)
    (not_kept (Single c.args.set) c.self.inside.sorted c.in-None.ensures.found)))

-- what a refusal leaves

pub returns-in_err-id-in-None-clause-refused : goal.returns-in_err-id-in-None-clause-refused
returns-in_err-id-in-None-clause-refused g c =
    let refused = c.in_err-id-in-None.ensures.refused in
    handed_on _ c.from_residual.result c.in_err-id-in-None.field-0.0 c.from_residual.ensures.1
    (record { reason = refused.reason; left = inl refused.left; later = refused.later })

pub returns-in_err-list-in-None-clause-refused : goal.returns-in_err-list-in-None-clause-refused
returns-in_err-list-in-None-clause-refused g c =
    let answered = c.in_ok-id-in-None.ensures.answered in
    handed_on _ c.from_residual-in_err-list-in-None.result (Store c.in_err-list-in-None.field-0.0)
    c.from_residual-in_err-list-in-None.ensures.1
    (record {
      reason = memory_refused _ c.in_err-list-in-None.field-0.0 c.in_err-list-in-None.ensures.memory;
      left = inr answered.matched;
      later = answered.later;
    })

pub returns-in_err-place-in-None-clause-refused : goal.returns-in_err-place-in-None-clause-refused
returns-in_err-place-in-None-clause-refused g c =
    let old = c.args.self.now in
    let p = provided g old.provider in
    let may = g.D.DependencyProvider.may_answer old.provider in
    let has = g.D.SolvableId.Set.IdSet.has in
    let answered = c.in_ok-id-in-None.ensures.answered in
    handed_on _ c.from_residual-in_err-place-in-None.result
    (Store c.in_err-place-in-None.field-0.0) c.from_residual-in_err-place-in-None.ensures.1 (record {
      reason = memory_refused _ c.in_err-place-in-None.field-0.0 c.in_err-place-in-None.ensures.memory;
      left = rw c.in_err-place-in-None.ensures.err
          (inr (subst (λ v. IsMatched p may has old c.args.set v) (sym c.self-in-None.view_is) answered.matched));
      later = rw c.in_err-place-in-None.ensures.err (subst (λ v. IsLater has old v)
          (sym c.self-in-None.view_is) answered.later);
    })

-- where the list is kept

pub insert-requires : goal.insert-requires
insert-requires g c =
    let r = Single c.args.set in
    let old = c.args.self.now in
    let new : is_cached (same_requirement r) old.sorted ≡ false =
    rw (sym c.self.view_is) (not_kept r c.self.inside.sorted c.in-None.ensures.found) in
    none_of _ (ap (λ t. is_cached t c.self-in-None.inside.sorted) (same_is r)
    ∙ ap (λ v. is_cached (same_requirement r) v.sorted) c.self-in-None.view_is
    ∙ ap (is_cached (same_requirement r)) (matched_sorted g.D.SolvableId.Set.IdSet.has (provided g old.provider)
    (g.D.DependencyProvider.may_answer old.provider) c.args.set old c.cache_matching_candidates.new.self
    c.in_ok-id-in-None.ensures.answered.matched) ∙ new)

in_order : (g : Over) (c : goal.In_ok-place-in-None g) → let q = c.args.self.now.provider in
    c.in_ok-list-in-None.list.items ≡ sorted (provided g q).universe (provided g q).answers
    (provided g q).same_solvable c.args.set
in_order g c =
    let same = g.D.SolvableId.PartialEq.eq in
    let answers = g.D.DependencyProvider.answers in
    let universe = g.D.Interner.universe in
    let set = c.args.set in
    let m = c.cache_matching_candidates.new.self.provider in
    c.in_ok-list-in-None.ensures.ok
    ∙ ap (λ v. favored_first same c.favored-favored.result ((answers v.provider).order c.matching_list.result.now))
    c.self-in-None.view_is
    ∙ ap (λ f. favored_first same f ((answers m).order c.matching_list.result.now)) c.favored-favored.ensures
    ∙ ap (λ l. favored_first same ((answers m).favored ((universe m).set_name set)) ((answers m).order l))
    c.matching_list.ensures.list
    ∙ ap (λ r. sorted (universe r) (answers r) same set) c.in_ok-id-in-None.ensures.answered.later.provider

pub invariant_of-self-in-None : goal.invariant_of-self-in-None
invariant_of-self-in-None g c =
    let set = c.args.set in
    let q = c.self-in-None.inside.provider in
    let mid = c.cache_matching_candidates.new.self in
    let same : q ≡ c.args.self.now.provider = ap (λ v. v.provider) c.self-in-None.view_is
    ∙ c.in_ok-id-in-None.ensures.answered.later.provider in
    let queried : is_set_queried (provided g q) mid set ≡ true = ap (λ r. is_set_queried (provided g r) mid set) same
    ∙ c.in_ok-id-in-None.ensures.answered.queried in
    rw c.in_ok-place-in-None.ensures.ok (right_single _ _ c.self-in-None.invariant set c.in_ok-list-in-None.list.items
    (in_order g c ∙ ap (λ r. sorted (provided g r).universe (provided g r).answers (provided g r).same_solvable set)
    (sym same))
    (ap (λ v. is_set_queried (provided g q) v set) c.self-in-None.view_is ∙ queried))

pub returns-in_ok-place-in-None-clause-answered : goal.returns-in_ok-place-in-None-clause-answered
returns-in_ok-place-in-None-clause-answered g c =
    let r = Single c.args.set in
    let has = g.D.SolvableId.Set.IdSet.has in
    let old = c.args.self.now in
    let mid = c.cache_matching_candidates.new.self in
    let list = c.in_ok-list-in-None.list.items in
    let answered = c.in_ok-id-in-None.ensures.answered in
    let new : is_cached (same_requirement r) old.sorted ≡ false =
    rw (sym c.self.view_is) (not_kept r c.self.inside.sorted c.in-None.ensures.found) in
    record {
      sorted = once_new _ _ _ _ new (
        mid,
        answered.matched,
        rw c.in_ok-place-in-None.ensures.ok (more_sorted _ _ c.self-in-None.view_is r list
            ∙ more_list mid r _ _ (in_order g c)),
      );
      list = rw (c.in_ok-place-in-None.ensures.ok, c.in_ok-place-in-None.ensures.place)
          (value_last c.self-in-None.inside.sorted r list ∙ ap Some (in_order g c));
      later = rw c.in_ok-place-in-None.ensures.ok (later_sorted has old _ r list
          (subst (λ v. IsLater has old v) (sym c.self-in-None.view_is) answered.later));
      queried = grind (arith, common_steps);
    }

pub favored-favored-requires-clause-known : goal.favored-favored-requires-clause-known
favored-favored-requires-clause-known g c = grind (arith, common_steps)

pub invariant_of-self : goal.invariant_of-self
invariant_of-self g c = grind (arith, common_steps)
