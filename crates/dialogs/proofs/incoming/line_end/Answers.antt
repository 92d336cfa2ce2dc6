use Rattle.dialogs.proofs.Feeds.{no_feed_next}
use Rattle.dialogs.proofs.incoming.line_end.Goals as goal

pub loop-i-preserved : goal.loop-i-preserved
loop-i-preserved c = no_feed_next c.args.text.now c.loop-i.i c.loop-i-test.true c.loop-i.invariant
    c.if-text-i-eq10.false
