use Rattle.resolvo_store.proofs.InvariantLemmas.{after_decayed}
use Rattle.resolvo_store.proofs.store.ClauseStore.decay.Goals as goal

pub invariant_of-self : goal.invariant_of-self
invariant_of-self g c =
    record {
      consistent = after_decayed c.self.invariant.consistent c.args.numerator c.args.denominator
          c.decay.ensures.decayed;
      counted = c.self.invariant.counted;
      marked = c.self.invariant.marked;
    }
