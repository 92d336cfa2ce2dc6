use Rattle.std.proofs.Common.{length}
use Rattle.watch_map.specs.WatchCalls.{remaining}
use Rattle.test_part_calls.proofs.WalkLaws.{Walked}
use Rattle.test_part_calls.proofs.walks.walk.Given as goal

abbrev pub invariant-loop-cursor : goal.invariant-loop-cursor
invariant-loop-cursor g l = Walked l.fn.literal (g.R.Rewatch.choice l.rewatch) l.fn.map l.fn.watches l.fn.met.items
    l.cursor l.map l.watches l.met.items

abbrev pub decreases-loop-cursor : goal.decreases-loop-cursor
decreases-loop-cursor g l = length (remaining l.cursor l.map l.watches)
