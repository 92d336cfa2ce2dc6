use Rattle.std.proofs.Common.{[], Some, ap, ◌∙◌, arith}
use Rattle.resolvo_queue.proofs.Words.{are_literals_false, condition_literals, stored_in, values_in}
use Rattle.resolvo_queue.proofs.Syncs.Noting.{past_met}
use Rattle.resolvo_queue.proofs.condition.is_met.Goals as goal

pub returns-then-index-len : goal.returns-then-index-len
returns-then-index-len g c = past_met (values_in c.args.map.now) c.args.disjunctions.now c.args.disjunction
    (omega (arith, c.if-index-len.true, c.len.ensures.value))

pub returns : goal.returns
returns g c = c.condition_holds.ensures ∙ ap (λ d. are_literals_false (values_in c.args.map.now)
    (condition_literals (stored_in [] [] c.args.disjunctions.now) (Some d))) c.from_index.ensures
