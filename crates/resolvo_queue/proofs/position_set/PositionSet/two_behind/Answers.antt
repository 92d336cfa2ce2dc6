use Rattle.std.proofs.Common.{subst}
use Rattle.resolvo_queue.specs.Scan.Positions.{IsNextBehind}
use Rattle.resolvo_queue.proofs.Picks.Seconds.{next_found}
use Rattle.resolvo_queue.proofs.position_set.PositionSet.two_behind.Goals as goal

pub returns-in-Some-next-clause-next : goal.returns-in-Some-next-clause-next
returns-in-Some-next-clause-next g c =
    let first = c.in-Some.first.now in
    let second = c.in-Some-next.second.now in
    subst (λ s. IsNextBehind s first second) c.self.view_is
    (next_found c.self.inside.positions.keys c.args.position first second c.next.new.self c.next-in-Some.new.self
    c.range-behind.result c.range-behind.ensures.ordered (c.range-behind.ensures.between tt)
    c.in-Some.ensures.steps c.in-Some-next.ensures.steps)
