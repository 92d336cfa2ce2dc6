use Rattle.std.proofs.Common.{ap, refl}
use Rattle.resolvo_store.proofs.Words.{propagated, Trail}
use Rattle.resolvo_store.proofs.CallerLaws.{store_in}
use Rattle.resolvo_store.proofs.CountedLemmas.{counted_still}
use Rattle.resolvo_store.proofs.InvariantLemmas.{after_trail}
use Rattle.resolvo_store.proofs.MarkedLaws.{marks_same}
use Rattle.resolvo_store.proofs.SyncedLemmas.{in_step-propagated}
use Rattle.resolvo_store.proofs.SoundLaws.{IsSound-propagated}
use Rattle.resolvo_store.proofs.store.ClauseStore.next_unpropagated.Goals as goal

pub invariant_of-self : goal.invariant_of-self
invariant_of-self g c =
    record {
      consistent = after_trail c.self.invariant.consistent (propagated c.self.inside.trail)
          (IsSound-propagated _ c.self.invariant.consistent.sound c.self.inside.trail.floor)
          (in_step-propagated c.self.inside.trail c.self.invariant.consistent.may_decide.in_step)
          c.next_unpropagated.ensures.trail;
      counted = counted_still refl (ap (λ (t : Trail). t.entries) c.next_unpropagated.ensures.trail)
          c.self.invariant.counted;
      marked = marks_same (store_in c.self.invariant.consistent.sound) c.self.inside.marks c.self.invariant.marked
          c.next_unpropagated.new.self
          (ap (λ (t : Trail). t.entries) c.next_unpropagated.ensures.trail);
    }
