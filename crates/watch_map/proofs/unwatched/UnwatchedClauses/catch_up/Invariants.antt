use Rattle.std.specs.Prelude.{◌-◌, length}
use Rattle.watch_map.proofs.Words.{AreUnwatchedBelow}
use Rattle.watch_map.proofs.unwatched.UnwatchedClauses.catch_up.Given as goal

abbrev pub invariant-records : goal.invariant-records
invariant-records g l = AreUnwatchedBelow l.watches l.self.bound l.self.ids.items

abbrev pub decreases-records : goal.decreases-records
decreases-records g l = length l.watches - l.self.bound
