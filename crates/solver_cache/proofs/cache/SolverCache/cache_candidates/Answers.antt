use Rattle.std.proofs.Common.{sym}
use Rattle.solver_cache.proofs.Words.{gathered, IsAnswer}
use Rattle.solver_cache.proofs.CacheLemmas.{kept_answer, later_same, once_kept}
use Rattle.solver_cache.proofs.cache.SolverCache.cache_candidates.Goals as goal

pub returns-in-Some-clause-answered : goal.returns-in-Some-clause-answered
returns-in-Some-clause-answered g c =
    let D = g.D in
    let p = gathered D.NameId.PartialEq.eq D.SolvableId.PartialEq.eq D.NameId.Slots.IdMap.is_too_large
    D.SolvableId.Slots.IdMap.is_too_large D.SolvableId.Set.IdSet.is_too_large D.NameId.SolverId.are_many
    D.Interner.universe D.DependencyProvider.answers c.self.inside.provider in
    rw (sym c.self.view_is) (record {
      queried = once_kept _ _ _ (sym c.in-Some.ensures.found);
      own = c.in-Some.ensures.answer;
      answer = kept_answer g.D.NameId.PartialEq.eq g.met.D.NameId.SameValue.same
          (IsAnswer p (D.DependencyProvider.may_answer c.self.inside.provider)) c.args.name c.in-Some.id
          c.self.inside.candidates
          c.self.invariant.answers (sym c.in-Some.ensures.found) c.in-Some.ensures.answer;
      later = later_same _ _;
      queried_now = sym c.in-Some.ensures.found;
    })
