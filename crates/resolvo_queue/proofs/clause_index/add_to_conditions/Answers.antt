use Rattle.resolvo_queue.proofs.Clauses.Numbers.{found_more, gains_both, gains_pushed}
use Rattle.resolvo_queue.proofs.clause_index.add_to_conditions.Goals as goal

pub loop-literal-preserved : goal.loop-literal-preserved
loop-literal-preserved g c = record {
  grows = gains_both c.args.disjunction c.args.conditions.now c.loop-literal.conditions c.push.new.self
      c.loop-literal.invariant.grows
      (gains_pushed c.args.disjunction c.push.result c.variable.result c.loop-literal.conditions c.push.new.self
      c.push.ensures.ok c.push.ensures.err);
  all = found_more c.args.disjunction c.args.literals.now c.loop-literal.literal-index c.literal-item.result
      c.variable.result c.loop-literal.conditions c.push.new.self
      c.loop-literal-test.true c.literal-item.is c.variable.ensures c.in_ok-push.ensures.ok
      c.loop-literal.invariant.all;
}
