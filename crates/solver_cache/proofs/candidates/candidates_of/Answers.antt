use Rattle.std.proofs.lemmas.Grind.{common_steps}
use Rattle.std.proofs.Common.{arith}
use Rattle.solver_cache.proofs.candidates.candidates_of.Goals as goal

pub returns-clause-ok : goal.returns-clause-ok
returns-clause-ok g c = record {
  candidates = grind (arith, common_steps);
  favored = grind (arith, common_steps);
  allowed = (c.in_ok-found.found, c.in_ok-found.ensures.allowed, c.answered.ensures.whole);
}
