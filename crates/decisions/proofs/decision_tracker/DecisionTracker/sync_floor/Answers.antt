use Rattle.decisions.proofs.TrackerLemmas.{IsWithin-trail_of}
use Rattle.decisions.proofs.decision_tracker.DecisionTracker.sync_floor.Goals as goal

pub returns-clause-within : goal.returns-clause-within
returns-clause-within g c =
    let fields = c.self.inside in
    let is = c.self.invariant in
    let within = IsWithin-trail_of fields.map fields.stack.items fields.propagate_index fields.sync_floor is.1 is.2 in
    rw (← c.self.view_is) within
