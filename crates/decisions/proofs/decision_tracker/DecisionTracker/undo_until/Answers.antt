use Rattle.std.proofs.Common.{◌≡◌, arith, length}
use Rattle.decisions.specs.Tracker.{entries_of}
use Rattle.decisions.proofs.TrailLemmas.{top_level-positive, empty_at_zero}
use Rattle.decisions.proofs.TrackerLemmas.{trail_of, IsWithin-trail_of}
use Rattle.decisions.proofs.decision_tracker.DecisionTracker.undo_until.Goals as goal

pub returns-clause-cleared : goal.returns-clause-cleared
returns-clause-cleared g c = λ is.
    let left = c.drop_above.ensures in
    let map = c.drop_above.new.map in
    let ds = c.drop_above.new.stack.items in
    let positive = top_level-positive (entries_of map ds) left.tracked.trail.levels in
    let none : length (entries_of map ds) ≡ 0 = grind (arith, positive, left.within, is) in
    let place = c.min-self-inside.result in
    let floor = c.min-self-inside-2.result in
    let within = IsWithin-trail_of map ds place floor (omega arith) (omega arith) in
    empty_at_zero (trail_of map ds place floor) within none
