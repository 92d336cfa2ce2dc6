use Rattle.std.specs.Prelude.{◌≤◌, length}
use Rattle.watch_map.proofs.saturation.unwatched.count_before.Given as goal

abbrev pub invariant-loop-count : goal.invariant-loop-count
invariant-loop-count g l = l.count ≤ length l.input.unwatched.now

abbrev pub decreases-loop-count : goal.decreases-loop-count
decreases-loop-count g l = l.count
