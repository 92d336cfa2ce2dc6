use Rattle.apt_solver.specs.Search.{StaysWhole}
use Rattle.apt_solver.proofs.solving.search.Given as goal

abbrev pub invariant-loop : goal.invariant-loop
invariant-loop l = StaysWhole l.fn.archive l.archive
