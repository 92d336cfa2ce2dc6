use Rattle.std.proofs.Common.{sym}
use Rattle.decisions.proofs.TrackerLemmas.{map-entries_of, IsWithin-trail_of}
use Rattle.decisions.proofs.decision_tracker.DecisionTracker.assignments.Goals as goal

pub returns-clause-decisions : goal.returns-clause-decisions
returns-clause-decisions g c =
    let fields = c.self.inside in
    rw (c.as_slice.ensures.value, ← c.self.view_is) (sym (map-entries_of fields.map fields.stack.items))

pub returns-clause-within : goal.returns-clause-within
returns-clause-within g c =
    let fields = c.self.inside in
    let is = c.self.invariant in
    let within = IsWithin-trail_of fields.map fields.stack.items fields.propagate_index fields.sync_floor is.1 is.2 in
    rw (← c.self.view_is) within
