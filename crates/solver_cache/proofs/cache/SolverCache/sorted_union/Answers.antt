use Rattle.std.proofs.lemmas.Grind.{common_steps}
use Rattle.std.proofs.Common.{◌≡◌, ◌∙◌, Some, true, false, ap, subst, sym, true≢false, arith}
use Rattle.solver_cache.proofs.Words.{All, AreUnsorted, gathered, is_cached, is_set_queried, IsLater, lookup, Provider}
use Rattle.solver_cache.proofs.Words.{same_requirement, sorted_of, Store, Union}
use Rattle.solver_cache.proofs.CacheLemmas.{found_sorted, handed_on, later_same, more_list, more_sorted}
use Rattle.solver_cache.proofs.CacheLemmas.{once_kept, once_new, right_sorted, same_is, value_last}
use Rattle.solver_cache.proofs.UnionLemmas.{none_of}
use Rattle.solver_cache.proofs.UnionLemmas.{union_still_new}
use Rattle.solver_cache.proofs.FilteringLemmas.{memory_refused}
use Rattle.solver_cache.proofs.SortingLemmas.{later_sorted, not_kept}
use Rattle.solver_cache.proofs.UnansweredLemmas.{all_sorted}
use Rattle.solver_cache.proofs.cache.SolverCache.sorted_union.Given.{Over}
use Rattle.solver_cache.proofs.cache.SolverCache.sorted_union.Goals as goal

-- the provider's functions
abbrev provided : (g : Over) → g.row.D.Denot → Provider g.row.D-NameId.Denot g.row.D-SolvableId.Denot
provided g = gathered g.D.NameId.PartialEq.eq g.D.SolvableId.PartialEq.eq g.D.NameId.Slots.IdMap.is_too_large
    g.D.SolvableId.Slots.IdMap.is_too_large g.D.SolvableId.Set.IdSet.is_too_large g.D.NameId.SolverId.are_many
    g.D.Interner.universe g.D.DependencyProvider.answers

-- what is kept

pub returns-in-Some-clause-answered : goal.returns-in-Some-clause-answered
returns-in-Some-clause-answered g c =
    let r = Union c.args.union in
    let cached = c.self.inside.sorted in
    let alike = same_is r in
    let is_there : is_cached (same_requirement r) cached ≡ true = ap (λ t. is_cached t cached) (sym alike)
    ∙ sym c.in-Some.ensures.found in
    let found = found_sorted _ _ c.self.invariant r c.in-Some.place is_there (c.in-Some.ensures.list
    ∙ ap (λ t. lookup t cached) alike) in
    rw (sym c.self.view_is) (record {
      sorted = once_kept _ _ _ is_there;
      list = found.0;
      later = later_same _ _;
      queried = found.1;
    })

-- only what isn't kept is refused

pub returns-in_err-list-in-None-clause-cached : goal.returns-in_err-list-in-None-clause-cached
returns-in_err-list-in-None-clause-cached g c = λ cached.
    absurd (true≢false (sym cached ∙ rw (sym c.self.view_is)
    (not_kept (Union c.args.union) c.self.inside.sorted c.in-None.ensures.found)))

pub returns-in_err-place-in-None-clause-cached : goal.returns-in_err-place-in-None-clause-cached
returns-in_err-place-in-None-clause-cached g c = λ cached.
    absurd (true≢false (sym cached ∙ rw (sym c.self.view_is)
    (not_kept (Union c.args.union) c.self.inside.sorted c.in-None.ensures.found)))

-- where the list can't be kept

pub returns-in_err-place-in-None-clause-refused : goal.returns-in_err-place-in-None-clause-refused
returns-in_err-place-in-None-clause-refused g c =
    let old = c.args.self.now in
    let p = provided g old.provider in
    let may = g.D.DependencyProvider.may_answer old.provider in
    let has = g.D.SolvableId.Set.IdSet.has in
    let sets = p.universe.union_sets c.args.union in
    let done = c.in_ok-list-in-None.ensures.sorted in
    handed_on _ c.from_residual-in_err-place-in-None.result
    (Store c.in_err-place-in-None.field-0.0) c.from_residual-in_err-place-in-None.ensures.1 (record {
      reason = memory_refused _ c.in_err-place-in-None.field-0.0 c.in_err-place-in-None.ensures.memory;
      left = rw c.in_err-place-in-None.ensures.err (subst (λ v. AreUnsorted p may has old sets v)
          (sym c.self-in-None.view_is)
          (all_sorted p may has sets old c.joined.new.self done.sorted));
      later = rw c.in_err-place-in-None.ensures.err (subst (λ v. IsLater has old v)
          (sym c.self-in-None.view_is) done.later);
    })

-- where the list is kept

pub insert-requires : goal.insert-requires
insert-requires g c =
    let u = c.args.union in
    let r = Union u in
    let old = c.args.self.now in
    let mid = c.joined.new.self in
    let p = provided g old.provider in
    let new : is_cached (same_requirement r) old.sorted ≡ false =
    rw (sym c.self.view_is) (not_kept r c.self.inside.sorted c.in-None.ensures.found) in
    let still : is_cached (same_requirement r) mid.sorted ≡ false =
    union_still_new g.D.SolvableId.Set.IdSet.has p (g.D.DependencyProvider.may_answer old.provider) u
    (p.universe.union_sets u) old mid c.in_ok-list-in-None.ensures.sorted.sorted new in
    none_of _ (ap (λ t. is_cached t c.self-in-None.inside.sorted) (same_is r)
    ∙ ap (λ v. is_cached (same_requirement r) v.sorted) c.self-in-None.view_is ∙ still)

pub invariant_of-self-in-None : goal.invariant_of-self-in-None
invariant_of-self-in-None g c =
    let u = c.args.union in
    let r = Union u in
    let old = c.args.self.now in
    let mid = c.joined.new.self in
    let q = c.self-in-None.inside.provider in
    let same : q ≡ old.provider = ap (λ v. v.provider) c.self-in-None.view_is
    ∙ c.in_ok-list-in-None.ensures.sorted.later.provider in
    rw c.in_ok-place-in-None.ensures.ok (right_sorted _ _ c.self-in-None.invariant r c.in_ok-list-in-None.list.items
    (c.in_ok-list-in-None.ensures.list ∙ ap (λ q. sorted_of (provided g q) r) (sym same))
    (subst (λ st. All (λ v. is_set_queried (provided g q) st v ≡ true) ((provided g q).universe.union_sets u))
    (sym c.self-in-None.view_is)
    (subst (λ q. All (λ v. is_set_queried (provided g q) mid v ≡ true) ((provided g q).universe.union_sets u))
    (sym same) c.in_ok-list-in-None.ensures.sorted.queried)))

pub returns-in_ok-place-in-None-clause-answered : goal.returns-in_ok-place-in-None-clause-answered
returns-in_ok-place-in-None-clause-answered g c =
    let r = Union c.args.union in
    let has = g.D.SolvableId.Set.IdSet.has in
    let old = c.args.self.now in
    let mid = c.joined.new.self in
    let p = provided g old.provider in
    let list = c.in_ok-list-in-None.list.items in
    let done = c.in_ok-list-in-None.ensures.sorted in
    let new : is_cached (same_requirement r) old.sorted ≡ false =
    rw (sym c.self.view_is) (not_kept r c.self.inside.sorted c.in-None.ensures.found) in
    record {
      sorted = once_new _ _ _ _ new (
        mid,
        done.sorted,
        rw c.in_ok-place-in-None.ensures.ok (more_sorted _ _ c.self-in-None.view_is r list
            ∙ more_list mid r _ _ c.in_ok-list-in-None.ensures.list),
      );
      list = rw (c.in_ok-place-in-None.ensures.ok, c.in_ok-place-in-None.ensures.place)
          (value_last c.self-in-None.inside.sorted r list ∙ ap Some c.in_ok-list-in-None.ensures.list);
      later = rw c.in_ok-place-in-None.ensures.ok (later_sorted has old _ r list
          (subst (λ v. IsLater has old v) (sym c.self-in-None.view_is) done.later));
      queried = subst (λ st. All (λ v. is_set_queried p st v ≡ true) (p.universe.union_sets c.args.union))
          (sym c.self-in-None.view_is) done.queried;
    }

pub invariant_of-self : goal.invariant_of-self
invariant_of-self g c = grind (arith, common_steps)
