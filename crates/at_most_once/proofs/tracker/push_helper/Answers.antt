use Rattle.std.proofs.Common.{ℕ, ap, ◌∙◌, arith}
use Rattle.at_most_once.specs.AtMostOne.{has_bit}
use Rattle.at_most_once.proofs.BitLemmas.{goes_on}
use Rattle.at_most_once.proofs.tracker.push_helper.Goals as goal

pub loop-number-preserved : goal.loop-number-preserved
loop-number-preserved g c = record {
  items = goes_on (λ (x : ℕ × g.row.V.Denot). (x.1, c.args.helper, has_bit x.0 c.args.bit)) c.args.clauses.now.items
      c.loop-number.clauses.items c.push_reserved.new.self.items
      c.args.variables.now c.loop-number.number c.index-variables-number.result _ c.loop-number-test.true
      c.index-variables-number.is
      c.loop-number.invariant.items c.push_reserved.ensures.items
      (ap (λ b. (c.index-variables-number.result, c.args.helper, b)) c.has_bit.ensures);
  len = (let a = c.push_reserved.ensures.len in let b = c.loop-number.invariant.len in omega arith);
  room = c.push_reserved.ensures.capacity ∙ c.loop-number.invariant.room;
}
