use Rattle.std.proofs.lemmas.Grind.{common_steps}
use Rattle.std.proofs.Common.{◌≡◌, ◌∙◌, true, false, Some, ap, subst, sym, inr, arith}
use Rattle.solver_cache.proofs.Words.{gathered, is_cached, is_set_queried, IsLater, IsQueried, lookup, Provider}
use Rattle.solver_cache.proofs.Words.{same_requirement, Single, sorted, Store}
use Rattle.solver_cache.proofs.CacheLemmas.{found_single, handed_on, later_same, more_list, more_sorted, once_kept}
use Rattle.solver_cache.proofs.CacheLemmas.{once_new, right_single, same_is, value_last}
use Rattle.solver_cache.proofs.IdLemmas.{asked_fits}
use Rattle.solver_cache.proofs.UnionLemmas.{none_of}
use Rattle.solver_cache.proofs.FilteringLemmas.{memory_refused}
use Rattle.solver_cache.proofs.SortingLemmas.{asked_sorted, later_sorted, not_kept}
use Rattle.solver_cache.proofs.cache.SolverCache.best_list.Given.{Over}
use Rattle.solver_cache.proofs.cache.SolverCache.best_list.Goals as goal

-- the provider's functions
abbrev provided : (g : Over) → g.row.D.Denot → Provider g.row.D-NameId.Denot g.row.D-SolvableId.Denot
provided g = gathered g.D.NameId.PartialEq.eq g.D.SolvableId.PartialEq.eq g.D.NameId.Slots.IdMap.is_too_large
    g.D.SolvableId.Slots.IdMap.is_too_large g.D.SolvableId.Set.IdSet.is_too_large g.D.NameId.SolverId.are_many
    g.D.Interner.universe g.D.DependencyProvider.answers

-- what is kept

pub returns-in-Some-clause-answered : goal.returns-in-Some-clause-answered
returns-in-Some-clause-answered g c =
    let cached = c.self.inside.sorted in
    let alike = same_is (Single c.args.set) in
    let is_there : is_cached (same_requirement (Single c.args.set)) cached ≡ true =
    ap (λ t. is_cached t cached) (sym alike) ∙ sym c.in-Some.ensures.found in
    let found = found_single _ _ c.self.invariant c.args.set c.in-Some.place is_there (c.in-Some.ensures.list
    ∙ ap (λ t. lookup t cached) alike) in
    rw (sym c.self.view_is) (record {
      kept = once_kept _ _ _ is_there;
      list = found.0;
      later = later_same _ _;
      queried = found.1;
      fit = asked_fits _ _ c.self.invariant g.met.D.NameId.SameValue.same c.args.set found.1;
    })

-- where the list can't be kept

pub returns-in_err-place-in-None-clause-refused : goal.returns-in_err-place-in-None-clause-refused
returns-in_err-place-in-None-clause-refused g c =
    let old = c.args.self.now in
    let p = provided g old.provider in
    let may = g.D.DependencyProvider.may_answer old.provider in
    let has = g.D.SolvableId.Set.IdSet.has in
    let asked = c.in_ok-list-in-None.ensures.package in
    handed_on _ c.from_residual-in_err-place-in-None.result
    (Store c.in_err-place-in-None.field-0.0) c.from_residual-in_err-place-in-None.ensures.1 (record {
      reason = memory_refused _ c.in_err-place-in-None.field-0.0 c.in_err-place-in-None.ensures.memory;
      left = rw c.in_err-place-in-None.ensures.err
          (inr (subst (λ v. IsQueried p may has old (p.universe.set_name c.args.set) v)
          (sym c.self-in-None.view_is) asked.queried));
      later = rw c.in_err-place-in-None.ensures.err (subst (λ v. IsLater has old v)
          (sym c.self-in-None.view_is) asked.later);
    })

-- where it is

pub insert-requires : goal.insert-requires
insert-requires g c =
    let r = Single c.args.set in
    let old = c.args.self.now in
    let p = provided g old.provider in
    let new : is_cached (same_requirement r) old.sorted ≡ false =
    rw (sym c.self.view_is) (not_kept r c.self.inside.sorted c.in-None.ensures.found) in
    none_of _ (ap (λ t. is_cached t c.self-in-None.inside.sorted) (same_is r)
    ∙ ap (λ v. is_cached (same_requirement r) v.sorted) c.self-in-None.view_is
    ∙ ap (is_cached (same_requirement r)) (asked_sorted g.D.SolvableId.Set.IdSet.has p
    (g.D.DependencyProvider.may_answer old.provider) (p.universe.set_name c.args.set) old
    c.sorted_candidates_for_version_set.new.self c.in_ok-list-in-None.ensures.package.queried) ∙ new)

pub invariant_of-self-in-None : goal.invariant_of-self-in-None
invariant_of-self-in-None g c =
    let set = c.args.set in
    let q = c.self-in-None.inside.provider in
    let mid = c.sorted_candidates_for_version_set.new.self in
    let asked = c.in_ok-list-in-None.ensures.package in
    let same : q ≡ c.args.self.now.provider = ap (λ v. v.provider) c.self-in-None.view_is ∙ asked.later.provider in
    let queried : is_set_queried (provided g q) mid set ≡ true =
    ap (λ r. is_set_queried (provided g r) mid set) same ∙ asked.queried_now in
    rw c.in_ok-place-in-None.ensures.ok
    (right_single _ _ c.self-in-None.invariant set c.in_ok-list-in-None.list.items
    (c.in_ok-list-in-None.ensures.list
    ∙ ap (λ r. sorted (provided g r).universe (provided g r).answers (provided g r).same_solvable set) (sym same))
    (ap (λ v. is_set_queried (provided g q) v set) c.self-in-None.view_is ∙ queried))

pub returns-in_ok-place-in-None-clause-answered : goal.returns-in_ok-place-in-None-clause-answered
returns-in_ok-place-in-None-clause-answered g c =
    let set = c.args.set in
    let r = Single set in
    let has = g.D.SolvableId.Set.IdSet.has in
    let old = c.args.self.now in
    let mid = c.sorted_candidates_for_version_set.new.self in
    let list = c.in_ok-list-in-None.list.items in
    let asked = c.in_ok-list-in-None.ensures.package in
    let new : is_cached (same_requirement r) old.sorted ≡ false =
    rw (sym c.self.view_is) (not_kept r c.self.inside.sorted c.in-None.ensures.found) in
    record {
      kept = once_new _ _ _ _ new (
        mid,
        asked.queried,
        rw c.in_ok-place-in-None.ensures.ok (more_sorted _ _ c.self-in-None.view_is r list
            ∙ more_list mid r _ _ c.in_ok-list-in-None.ensures.list),
      );
      list = rw (c.in_ok-place-in-None.ensures.ok, c.in_ok-place-in-None.ensures.place)
          (value_last c.self-in-None.inside.sorted r list ∙ ap Some c.in_ok-list-in-None.ensures.list);
      later = rw c.in_ok-place-in-None.ensures.ok (later_sorted has old _ r list
          (subst (λ v. IsLater has old v) (sym c.self-in-None.view_is) asked.later));
      queried = ap (λ v. is_set_queried (provided g old.provider) v set) c.self-in-None.view_is ∙ asked.queried_now;
      fit = c.in_ok-list-in-None.ensures.fit;
    }

pub invariant_of-self : goal.invariant_of-self
invariant_of-self g c = grind (arith, common_steps)
