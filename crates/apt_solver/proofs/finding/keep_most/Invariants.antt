use Rattle.std.proofs.Common.{All, Contains}
use Rattle.apt_solver.specs.Search.{StaysWhole}
use Rattle.apt_solver.proofs.finding.keep_most.Given as goal

abbrev pub invariant-loop : goal.invariant-loop
invariant-loop l = record {
  stays : StaysWhole l.fn.archive l.archive;
  known : All (Contains l.rules.packages.now) l.ordered.there.items;
}
