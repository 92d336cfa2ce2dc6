use Rattle.std.proofs.Common.{arith}
use Rattle.call_texts.proofs.VersionLemmas.{counted_more, filled_more}
use Rattle.call_texts.proofs.versions.versions_in.Goals as goal

pub loop-line-preserved : goal.loop-line-preserved
loop-line-preserved c = record {
  within = omega (arith, c.in-Some-split_first.ensures.shorter);
  few = omega arith;
  count = counted_more c.loop-line.at c.loop-line.count _ c.in-Some-split_first.line.now
      c.in-Some-split_first.others.now c.loop-line.rest.now c.in-Some-version_at.version
      c.in-Some-split_first.ensures.parts c.in-Some-version_at.ensures c.loop-line.invariant.count;
  filled = filled_more c.loop-line.at c.loop-line.count c.in-Some-split_first.line.now
      c.in-Some-split_first.others.now c.loop-line.rest.now c.in-Some-version_at.version c.loop-line.buffer
      c.put.new.buffer _ c.in-Some-split_first.ensures.parts c.in-Some-version_at.ensures c.put.ensures
      c.loop-line.invariant.filled;
}
