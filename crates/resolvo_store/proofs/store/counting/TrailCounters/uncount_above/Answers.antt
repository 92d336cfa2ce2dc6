use Rattle.resolvo_store.proofs.Words.{entries_until}
use Rattle.resolvo_store.proofs.CountedLemmas.{follows_less}
use Rattle.resolvo_store.proofs.SyncedLemmas.{kept_front}
use Rattle.resolvo_store.proofs.store.counting.TrailCounters.uncount_above.Goals as goal

pub returns-clause-follows : goal.returns-clause-follows
returns-clause-follows g c s h =
    let es = c.args.trail.now.entries in
    let level = c.args.level in
    follows_less c.loop-self.self s es (entries_until level es) (c.loop-self.invariant.follows s h)
    (c.is_above.ensures.kept c.loop-self-test.false) (kept_front level es)
