use Rattle.reports.proofs.LineLemmas.{none_told, one_told}
use Rattle.reports.proofs.merging.merged.Goals as goal

pub loop-reason-preserved : goal.loop-reason-preserved
loop-reason-preserved g c =
    one_told _ _ _ _ _ _ c.loop-reason-test.true c.reason-item.is c.loop-reason.invariant c.in_ok-add.ensures

pub loop-reason-init : goal.loop-reason-init
loop-reason-init g c = none_told _ c.args.reasons.now _ c.new-lines.ensures.items
