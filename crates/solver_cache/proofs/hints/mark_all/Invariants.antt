use Rattle.std.proofs.Common.{◌≡◌, take}
use Rattle.solver_cache.proofs.Words.{with_hints}
use Rattle.solver_cache.proofs.hints.mark_all.Given as goal

abbrev pub invariant-loop-solvable : goal.invariant-loop-solvable
invariant-loop-solvable g l =
    let has = g.S.Set.IdSet.has in
    (s : g.row.S.Denot) → has l.hinted s ≡ with_hints g.S.PartialEq.eq g.S.Set.IdSet.is_too_large
    (has l.initial.hinted) (take l.solvable-index l.solvables) s
