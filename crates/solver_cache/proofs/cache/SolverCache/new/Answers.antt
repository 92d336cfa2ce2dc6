use Rattle.solver_cache.proofs.CacheLemmas.{right_new}
use Rattle.solver_cache.proofs.cache.SolverCache.new.Goals as goal

pub invariant_of-result : goal.invariant_of-result
invariant_of-result g c =
    rw (c.new.ensures, c.new-2.ensures, c.new-3.ensures, c.new-4.ensures, c.new-5.ensures)
    (right_new _ c.args.provider c.new-6.result)
