use Rattle.apt_solver.specs.Search.{StaysWhole}
use Rattle.apt_solver.proofs.recommending.Recommending.follow.Given as goal

abbrev pub invariant-loop-field : goal.invariant-loop-field
invariant-loop-field l = StaysWhole l.fn.archive l.archive
