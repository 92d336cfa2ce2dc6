use Rattle.std.proofs.Common.{[], ◌∷◌, arith}
use Rattle.std.proofs.lemmas.Result.{IfErr-weaker}
use Rattle.solver_cache.proofs.Words.{gathered, RefusesSets, RefusesSorted}
use Rattle.solver_cache.proofs.CacheLemmas.{later_same, refused_in_turn}
use Rattle.solver_cache.proofs.UnansweredLemmas.{left_of_one}
use Rattle.solver_cache.proofs.cache.SolverCache.cache_sorted_candidates.Goals as goal

pub returns-in-Single-clause-refused : goal.returns-in-Single-clause-refused
returns-in-Single-clause-refused g c =
    let D = g.D in
    let old = c.args.self.now in
    let p = gathered D.NameId.PartialEq.eq D.SolvableId.PartialEq.eq D.NameId.Slots.IdMap.is_too_large
    D.SolvableId.Slots.IdMap.is_too_large D.SolvableId.Set.IdSet.is_too_large D.NameId.SolverId.are_many
    D.Interner.universe D.DependencyProvider.answers old.provider in
    let may = D.DependencyProvider.may_answer old.provider in
    let has = D.SolvableId.Set.IdSet.has in
    let v = c.in-Single.set in
    let new = c.cache_sorted_candidates_for_version_set.new.self in
    rw c.in-Single.is
    (IfErr-weaker c.cache_sorted_candidates_for_version_set.result (λ e. RefusesSorted p may has old v e new)
    (λ e. RefusesSets p may has old (v ∷ []) e new)
    (λ e refused. record {
      reason = refused_in_turn has p old old new (later_same has old) refused.later (v ∷ []) 0 v
          (omega arith) e refused.reason;
      left = left_of_one p may has _ v old new e refused.reason refused.left;
      later = refused.later;
    })
    c.cache_sorted_candidates_for_version_set.ensures.refused)
