use Rattle.std.proofs.Common.{sym}
use Rattle.std.proofs.Math.Path.{fun_ext}
use Rattle.decisions.proofs.TrackerLemmas.{level_of-entries_of}
use Rattle.decisions.proofs.decision_tracker.DecisionTracker.map.Goals as goal

pub returns-clause-levels : goal.returns-clause-levels
returns-clause-levels g c =
    let fields = c.self.inside in
    rw (← c.self.view_is) (fun_ext (λ x. sym (level_of-entries_of fields.map fields.stack.items x c.self.invariant.0)))
