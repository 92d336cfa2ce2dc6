use Rattle.std.proofs.Common.{◌∙◌, false, ap}
use Rattle.solutions.proofs.Words.{favored_first, filtered}
use Rattle.solutions.proofs.newest.sorted_among.Goals as goal

pub returns : goal.returns
returns g c =
    let answers = g.D.DependencyProvider.answers c.args.provider.now in
    c.in_ok-put_in_order.ensures ∙ ap (λ l. favored_first g.D.SolvableId.PartialEq.eq c.args.all.now.favored
    (answers.order l))
    (c.in_ok-held.ensures.found ∙ ap (filtered (answers.matches c.args.set) false) c.deref.ensures.value)
