use Rattle.std.proofs.Common.{◌≡◌, sym}
use Rattle.solver_cache.proofs.Words.{needs_of}
use Rattle.solver_cache.proofs.CacheLemmas.{kept_answer, once_kept}
use Rattle.solver_cache.proofs.cache.SolverCache.cache_dependencies.Goals as goal

pub returns-in-Some-clause-answered : goal.returns-in-Some-clause-answered
returns-in-Some-clause-answered g c =
    rw (sym c.self.view_is) (record {
      fetched = once_kept _ _ _ (sym c.in-Some.ensures.found);
      answer = kept_answer g.D.SolvableId.PartialEq.eq g.met.D.SolvableId.SameValue.same
          (λ s answer. needs_of answer ≡ (g.D.DependencyProvider.answers c.self.inside.provider).needs s)
          c.args.solvable c.in-Some.id c.self.inside.dependencies
          c.self.invariant.needs (sym c.in-Some.ensures.found) c.in-Some.ensures.answer;
    })
