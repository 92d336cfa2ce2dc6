use Rattle.solver_cache.proofs.CallerLaws
use Rattle.test_part_calls.proofs.candidate_laws.candidates_divide.Goals as goal

pub returns : goal.returns
returns g c =
    CallerLaws.candidates_divide _ c.args.set g.met.D.SolvableId.SameValue.same
    (g.met.D.DependencyProvider.order_permutes c.args.provider.now)
