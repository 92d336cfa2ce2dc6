use Rattle.std.proofs.Common.{sym}
use Rattle.decisions.proofs.TrackerLemmas.{level_of-entries_of}
use Rattle.decisions.proofs.decision_tracker.DecisionTracker.level.Goals as goal

pub returns : goal.returns
returns g c =
    let fields = c.self.inside in
    let level = level_of-entries_of fields.map fields.stack.items c.args.variable c.self.invariant.0 in
    rw (c.level.ensures, ← c.self.view_is) (sym level)
