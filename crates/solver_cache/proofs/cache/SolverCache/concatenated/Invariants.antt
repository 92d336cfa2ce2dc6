use Rattle.std.proofs.Common.{◌≡◌, take}
use Rattle.solver_cache.proofs.Words.{flat_map, listed}
use Rattle.solver_cache.proofs.cache.SolverCache.concatenated.Given as goal

abbrev pub invariant-loop-id : goal.invariant-loop-id
invariant-loop-id g l = l.all.items ≡ flat_map (listed l.self) (take l.id-index l.ids)
