use Rattle.std.proofs.Common.{drop, ◌++◌}
use Rattle.std.proofs.lemmas.Result.{on_ok_weaker}
use Rattle.resolvo_queue.proofs.Words.{variables_of}
use Rattle.resolvo_queue.proofs.tracked_clauses.TrackedClauses.sync.Goals as goal
use Rattle.resolvo_queue.proofs.tracked_clauses.TrackedClauses.sync.Goals.{then-self, else-self}

pub returns-clause-synced : goal.returns-clause-synced
returns-clause-synced g c = elim c.if-self.branch [
  | then-self w ↦
      rw (w.self-is, w.synced-is, w.if-self.true)
      (on_ok_weaker w.start_anew-synced.result (λ all. all c.args.woken
      (variables_of (drop c.args.floor c.args.self.now.trail.items) ++
      variables_of (drop c.args.floor c.args.trail.now))) w.start_anew-synced.ensures.synced)
  | else-self w ↦ rw (w.self-is, w.synced-is, w.if-self.false) w.route_changes-synced.ensures.synced
]
