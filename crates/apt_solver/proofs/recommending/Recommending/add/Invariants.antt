use Rattle.apt_solver.specs.Search.{StaysWhole}
use Rattle.apt_solver.proofs.recommending.Recommending.add.Given as goal

abbrev pub invariant-loop-solvable : goal.invariant-loop-solvable
invariant-loop-solvable l = StaysWhole l.fn.archive l.archive
