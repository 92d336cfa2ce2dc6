use Rattle.std.proofs.Common.{subst, sym, take}
use Rattle.resolvo_store.proofs.Words.{Counting, false_by, Follows, IsReady}
use Rattle.resolvo_store.proofs.store.counting.TrailCounters.add.Goals as goal

pub returns-clause-follows : goal.returns-clause-follows
returns-clause-follows g c s clause entries ready h =
    let was = subst (λ (k : Counting). Follows k entries s) (sym c.self.view_is) h in
    record {
      within = was.within;
      counts = c.add.ensures (record s { is_false = false_by (take c.self.inside.counted entries) }) clause
          (subst (λ (k : Counting). IsReady k.clauses clause c.args.groups) (sym c.self.view_is) ready) was.counts;
    }
