use Rattle.decisions.proofs.TrailLemmas.{same_trail}
use Rattle.decisions.proofs.TrackerLemmas.{IsWithin-trail_of, length-entries_of}
use Rattle.std.proofs.Common.{refl, arith}
use Rattle.decisions.proofs.decision_tracker.DecisionTracker.take_sync_floor.Goals as goal

pub returns-clause-trail : goal.returns-clause-trail
returns-clause-trail g c =
    let fields = c.self.inside in
    let count = length-entries_of fields.map fields.stack.items in
    rw (← c.self.view_is) (same_trail refl refl (omega (arith, count)))

pub returns-clause-within : goal.returns-clause-within
returns-clause-within g c =
    let fields = c.self.inside in
    let is = c.self.invariant in
    let within = IsWithin-trail_of fields.map fields.stack.items fields.propagate_index fields.sync_floor is.1 is.2 in
    rw (← c.self.view_is) within
