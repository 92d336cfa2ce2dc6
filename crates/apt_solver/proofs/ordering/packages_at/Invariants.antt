use Rattle.std.proofs.Common.{All, Contains}
use Rattle.apt_solver.proofs.ordering.packages_at.Given as goal

abbrev pub invariant-loop-place : goal.invariant-loop-place
invariant-loop-place l = All (Contains l.packages) l.there.items
