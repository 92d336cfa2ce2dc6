use Rattle.std.proofs.lemmas.Grind.{common_steps}
use Rattle.std.proofs.Common.{◌≡◌, ◌∙◌, true, false, ap, subst, sym, true≢false, inr, arith}
use Rattle.solver_cache.proofs.Words.{gathered, is_cached, is_set_queried, IsLater, IsQueried, non_matching, Provider}
use Rattle.solver_cache.proofs.Words.{same_set, Store}
use Rattle.solver_cache.proofs.CacheLemmas.{found_non_matching, handed_on, later_same, more_non_matching}
use Rattle.solver_cache.proofs.CacheLemmas.{once_kept, once_new, right_unmatched, value_last}
use Rattle.solver_cache.proofs.UnionLemmas.{none_of}
use Rattle.solver_cache.proofs.FilteringLemmas.{asked_non_matching, later_non_matching, memory_refused}
use Rattle.solver_cache.proofs.cache.SolverCache.cache_non_matching_candidates.Given.{Over}
use Rattle.solver_cache.proofs.cache.SolverCache.cache_non_matching_candidates.Goals as goal

-- the provider's functions
abbrev provided : (g : Over) → g.row.D.Denot → Provider g.row.D-NameId.Denot g.row.D-SolvableId.Denot
provided g = gathered g.D.NameId.PartialEq.eq g.D.SolvableId.PartialEq.eq g.D.NameId.Slots.IdMap.is_too_large
    g.D.SolvableId.Slots.IdMap.is_too_large g.D.SolvableId.Set.IdSet.is_too_large g.D.NameId.SolverId.are_many
    g.D.Interner.universe g.D.DependencyProvider.answers

-- what is kept

pub returns-in-Some-clause-answered : goal.returns-in-Some-clause-answered
returns-in-Some-clause-answered g c =
    let found = found_non_matching _ _ c.self.invariant c.args.set c.in-Some.place
    (sym c.in-Some.ensures.found) c.in-Some.ensures.list in
    rw (sym c.self.view_is) (record {
      unmatched = once_kept _ _ _ (sym c.in-Some.ensures.found);
      list = found.0;
      later = later_same _ _;
      queried = found.1;
    })

-- only what isn't kept is refused

pub returns-in_err-found-in-None-clause-cached : goal.returns-in_err-found-in-None-clause-cached
returns-in_err-found-in-None-clause-cached g c =
    λ cached. absurd (true≢false (sym cached ∙ rw (sym c.self.view_is) (sym c.in-None.ensures.found)))

pub returns-in_err-place-in-None-clause-cached : goal.returns-in_err-place-in-None-clause-cached
returns-in_err-place-in-None-clause-cached g c =
    λ cached. absurd (true≢false (sym cached ∙ rw (sym c.self.view_is) (sym c.in-None.ensures.found)))

-- where the list can't be kept

pub returns-in_err-place-in-None-clause-refused : goal.returns-in_err-place-in-None-clause-refused
returns-in_err-place-in-None-clause-refused g c =
    let old = c.args.self.now in
    let p = provided g old.provider in
    let may = g.D.DependencyProvider.may_answer old.provider in
    let has = g.D.SolvableId.Set.IdSet.has in
    handed_on _ c.from_residual-in_err-place-in-None.result
    (Store c.in_err-place-in-None.field-0.0) c.from_residual-in_err-place-in-None.ensures.1 (record {
      reason = memory_refused _ c.in_err-place-in-None.field-0.0 c.in_err-place-in-None.ensures.memory;
      left = rw c.in_err-place-in-None.ensures.err
          (inr (subst (λ v. IsQueried p may has old (p.universe.set_name c.args.set) v)
          (sym c.self-in-None.view_is) c.in_ok-found-in-None.ensures.package.queried));
      later = rw c.in_err-place-in-None.ensures.err (subst (λ v. IsLater has old v)
          (sym c.self-in-None.view_is) c.in_ok-found-in-None.ensures.package.later);
    })

-- where it is

pub insert-requires : goal.insert-requires
insert-requires g c =
    let set = c.args.set in
    let old = c.args.self.now in
    let new : is_cached (same_set set) old.non_matching ≡ false =
    rw (sym c.self.view_is) (sym c.in-None.ensures.found) in
    let p = provided g old.provider in
    none_of _ (ap (λ v. is_cached (same_set set) v.non_matching) c.self-in-None.view_is
    ∙ ap (is_cached (same_set set))
    (asked_non_matching g.D.SolvableId.Set.IdSet.has p (g.D.DependencyProvider.may_answer old.provider)
    (p.universe.set_name set) old c.filtered.new.self c.in_ok-found-in-None.ensures.package.queried) ∙ new)

pub invariant_of-self-in-None : goal.invariant_of-self-in-None
invariant_of-self-in-None g c =
    let set = c.args.set in
    let q = c.self-in-None.inside.provider in
    let mid = c.filtered.new.self in
    let same : q ≡ c.args.self.now.provider = ap (λ v. v.provider) c.self-in-None.view_is
    ∙ c.in_ok-found-in-None.ensures.package.later.provider in
    let queried : is_set_queried (provided g q) mid set ≡ true =
    ap (λ r. is_set_queried (provided g r) mid set) same ∙ c.in_ok-found-in-None.ensures.package.queried_now in
    rw c.in_ok-place-in-None.ensures.ok
    (right_unmatched _ _ c.self-in-None.invariant set c.in_ok-found-in-None.found.items
    (c.in_ok-found-in-None.ensures.list
    ∙ ap (λ r. non_matching (provided g r).universe (provided g r).answers set) (sym same))
    (ap (λ v. is_set_queried (provided g q) v set) c.self-in-None.view_is ∙ queried))

pub returns-in_ok-place-in-None-clause-answered : goal.returns-in_ok-place-in-None-clause-answered
returns-in_ok-place-in-None-clause-answered g c =
    let has = g.D.SolvableId.Set.IdSet.has in
    let set = c.args.set in
    let old = c.args.self.now in
    let found = c.in_ok-found-in-None.found.items in
    let new : is_cached (same_set set) old.non_matching ≡ false =
    rw (sym c.self.view_is) (sym c.in-None.ensures.found) in
    record {
      unmatched = once_new _ _ _ _ new (
        c.filtered.new.self,
        c.in_ok-found-in-None.ensures.package.queried,
        rw (c.in_ok-place-in-None.ensures.ok, sym c.in_ok-found-in-None.ensures.list)
            (more_non_matching _ _ c.self-in-None.view_is set found),
      );
      list = rw (
        c.in_ok-place-in-None.ensures.ok,
        c.in_ok-place-in-None.ensures.place,
        sym c.in_ok-found-in-None.ensures.list,
      )
          (value_last c.self-in-None.inside.non_matching set found);
      later = rw c.in_ok-place-in-None.ensures.ok (later_non_matching has old _ set found
          (subst (λ v. IsLater has old v) (sym c.self-in-None.view_is) c.in_ok-found-in-None.ensures.package.later));
      queried = ap (λ v. is_set_queried (provided g old.provider) v set) c.self-in-None.view_is
          ∙ c.in_ok-found-in-None.ensures.package.queried_now;
    }

pub invariant_of-self : goal.invariant_of-self
invariant_of-self g c = grind (arith, common_steps)
