use Rattle.std.proofs.Common.{ap, ◌∙◌, slice_get}
use Rattle.resolvo_queue.proofs.Words.{first_of, list_at, Queue}
use Rattle.resolvo_queue.proofs.Clauses.Firsts.{next_first}
use Rattle.resolvo_queue.proofs.decide_queue.DecideQueue.first_of.Goals as goal

pub returns : goal.returns
returns g c =
    let index = c.self.inside.tracked.index in
    next_first index.clauses.items c.args.parent c.next_position.result.first_of_parent
    (slice_get (list_at index.by_parent c.args.parent) 0) (c.self.invariant.0.order.first c.args.parent)
    c.next_position.ensures.first
    ∙ ap (λ (q : Queue g.row.D-NameId.Denot g.row.D-NameId-Set.Denot). first_of q.clauses c.args.parent) c.self.view_is
