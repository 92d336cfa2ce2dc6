use Rattle.std.proofs.Common.{ℕ, ap, ◌∙◌, arith}
use Rattle.at_most_once.specs.AtMostOne.{has_bit}
use Rattle.at_most_once.proofs.BitLemmas.{goes_on}
use Rattle.at_most_once.proofs.tracker.push_variable.Goals as goal

pub loop-bit-preserved : goal.loop-bit-preserved
loop-bit-preserved g c = record {
  items = goes_on (λ (h : ℕ × g.row.V.Denot). (c.args.variable, h.1, has_bit c.args.number h.0))
      c.args.clauses.now.items c.loop-bit.clauses.items c.push_reserved.new.self.items
      c.args.helpers.now c.loop-bit.bit c.index-helpers-bit.result _ c.loop-bit-test.true c.index-helpers-bit.is
      c.loop-bit.invariant.items c.push_reserved.ensures.items
      (ap (λ b. (c.args.variable, c.index-helpers-bit.result, b)) c.has_bit.ensures);
  len = (let a = c.push_reserved.ensures.len in let b = c.loop-bit.invariant.len in omega arith);
  room = c.push_reserved.ensures.capacity ∙ c.loop-bit.invariant.room;
}
