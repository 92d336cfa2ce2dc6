use Rattle.std.proofs.Common.{◌∙◌, ap}
use Rattle.solver_cache.proofs.Words.{flat_map, gathered, listed, Provider, Store}
use Rattle.solver_cache.proofs.CacheLemmas.{handed_on}
use Rattle.solver_cache.proofs.FilteringLemmas.{memory_refused}
use Rattle.solver_cache.proofs.ListedLemmas.{listed_joined}
use Rattle.solver_cache.proofs.UnansweredLemmas.{all_sorted}
use Rattle.solver_cache.proofs.cache.SolverCache.joined.Given.{Over}
use Rattle.solver_cache.proofs.cache.SolverCache.joined.Goals as goal

-- the provider's functions
abbrev provided : (g : Over) → g.row.D.Denot → Provider g.row.D-NameId.Denot g.row.D-SolvableId.Denot
provided g = gathered g.D.NameId.PartialEq.eq g.D.SolvableId.PartialEq.eq g.D.NameId.Slots.IdMap.is_too_large
    g.D.SolvableId.Slots.IdMap.is_too_large g.D.SolvableId.Set.IdSet.is_too_large g.D.NameId.SolverId.are_many
    g.D.Interner.universe g.D.DependencyProvider.answers

pub returns-clause-list : goal.returns-clause-list
returns-clause-list g c =
    let p = provided g c.args.self.now.provider in
    let new = c.cache_sorted_lists.new.self in
    c.in_ok-concatenated.ensures.ok ∙ ap (flat_map (listed new)) c.deref.ensures.value
    ∙ listed_joined p new c.in_ok-ids.ids.items (p.universe.union_sets c.args.union) c.in_ok-ids.ensures.answered.lists

pub returns-in_err-concatenated-clause-refused : goal.returns-in_err-concatenated-clause-refused
returns-in_err-concatenated-clause-refused g c =
    let old = c.args.self.now in
    let p = provided g old.provider in
    let may = g.D.DependencyProvider.may_answer old.provider in
    let answered = c.in_ok-ids.ensures.answered in
    handed_on _ c.from_residual-in_err-concatenated.result (Store c.in_err-concatenated.field-0.0)
    c.from_residual-in_err-concatenated.ensures.1 (record {
      reason = memory_refused _ c.in_err-concatenated.field-0.0 c.in_err-concatenated.ensures.memory;
      left = all_sorted p may g.D.SolvableId.Set.IdSet.has (p.universe.union_sets c.args.union) old
          c.cache_sorted_lists.new.self answered.sorted;
      later = answered.later;
    })
