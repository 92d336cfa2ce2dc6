use Rattle.apt_solver.specs.Search.{StaysWhole}
use Rattle.apt_solver.proofs.recommending.Recommending.guess.Given as goal

abbrev pub invariant-loop-place : goal.invariant-loop-place
invariant-loop-place l = StaysWhole l.fn.archive l.archive
