use Rattle.std.proofs.Common.{rules}
use Rattle.resolvo_queue.proofs.position_set.PositionSet.insert.Goals as goal
use Rattle.resolvo_queue.proofs.position_set.PositionSet.insert.Goals.{in-Ok, in-Err}

pub returns-clause-ok : goal.returns-clause-ok
returns-clause-ok g c = elim c.match-insert.branch
    [ in-Ok w ↦ rw (w.result-is) (λ p. rw (← c.self.view_is) (w.in-Ok.ensures.updates.0 p)) | in-Err w ↦ search rules ]
