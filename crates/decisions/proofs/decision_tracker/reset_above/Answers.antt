use Rattle.std.proofs.Common.{◌-◌, ◌∙◌, take, slice_index_or, arith}
use Rattle.decisions.proofs.TrackerLemmas.{IsTracked-pop, entries_until-pop, entries_until-entries_of, take-last}
use Rattle.decisions.proofs.decision_tracker.reset_above.Goals as goal

pub loop-left-preserved : goal.loop-left-preserved
loop-left-preserved g c =
    let ds = c.args.stack.now in
    let left = c.loop-left.left in
    let newest = slice_index_or ds (left - 1) c.index-stack-left.result in
    let old = c.loop-left.map in
    let new = c.reset_above.new.self in
    let inv = c.loop-left.invariant in
    let is = take-last ds left c.index-stack-left.result c.loop-left-test.true inv.within in
    let tracked = rw is at inv.tracked in
    let reset = c.reset_above.ensures.reset c.if-not-reset_above.false in
    record {
      within = omega (arith, inv.within);
      tracked = IsTracked-pop old new (take (left - 1) ds) newest tracked reset.1;
      kept = entries_until-pop old new (take (left - 1) ds) newest tracked reset.1 c.args.level reset.0
          ∙ (rw is at inv.kept);
    }

pub returns-then-not-reset_above-clause-kept : goal.returns-then-not-reset_above-clause-kept
returns-then-not-reset_above-clause-kept g c =
    let ds = c.args.stack.now in
    let left = c.loop-left.left in
    let newest = slice_index_or ds (left - 1) c.index-stack-left.result in
    let inv = c.loop-left.invariant in
    let is = take-last ds left c.index-stack-left.result c.loop-left-test.true inv.within in
    let stays = c.reset_above.ensures.left c.if-not-reset_above.true in
    let all = entries_until-entries_of c.loop-left.map (take (left - 1) ds) newest c.args.level stays.0 in
    rw (stays.1, is) (all.0 ∙ (rw is at inv.kept))

pub returns-then-not-reset_above-clause-within : goal.returns-then-not-reset_above-clause-within
returns-then-not-reset_above-clause-within g c =
    let ds = c.args.stack.now in
    let left = c.loop-left.left in
    let newest = slice_index_or ds (left - 1) c.index-stack-left.result in
    let inv = c.loop-left.invariant in
    let is = take-last ds left c.index-stack-left.result c.loop-left-test.true inv.within in
    let stays = c.reset_above.ensures.left c.if-not-reset_above.true in
    rw (stays.1, is) (entries_until-entries_of c.loop-left.map (take (left - 1) ds) newest c.args.level stays.0).1
