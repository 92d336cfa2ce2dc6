use Rattle.std.specs.Prelude.{take}
use Rattle.watch_map.proofs.Words.{AreAllTrue, values_in}
use Rattle.watch_map.specs.Visits.{literals_at}
use Rattle.watch_map.proofs.saturation.unwatched.bound_of_true.Given as goal

abbrev pub invariant-loop-place : goal.invariant-loop-place
invariant-loop-place g l = AreAllTrue (literals_at l.input) (take l.place l.input.unwatched.now) (values_in l.map)
