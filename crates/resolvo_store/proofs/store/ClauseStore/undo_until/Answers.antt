use Rattle.std.proofs.Common.{◌≡◌, ◌∙◌, length, ap, refl, subst, sym}
use Rattle.resolvo_store.proofs.Words.{AreCounted, entries_until, HasMarks, queue_state_of, StoreState, taken_back}
use Rattle.resolvo_store.proofs.Words.{Trail, undo_until}
use Rattle.resolvo_store.proofs.CountedLemmas.{keeps_counted}
use Rattle.resolvo_store.proofs.CallerLaws.{store_in}
use Rattle.resolvo_store.proofs.InvariantLemmas.{after_trail}
use Rattle.resolvo_store.proofs.MarkedLaws.{marks_cut}
use Rattle.resolvo_store.proofs.SyncedLemmas.{in_step-undo_until, kept_front}
use Rattle.resolvo_store.proofs.SoundLaws.{IsSound-entries_until}
use Rattle.resolvo_store.proofs.store.ClauseStore.undo_until.Goals as goal

pub invariant_of-self : goal.invariant_of-self
invariant_of-self g c =
    let inside = c.self.inside in
    let level = c.args.level in
    let old = inside.trail in
    let new = c.undo_until.new.self in
    let cut = ap (λ (t : Trail). t.entries) c.undo_until.ensures.kept in
    let st = store_in c.self.invariant.consistent.sound in
    record {
      consistent = after_trail c.self.invariant.consistent (undo_until level old)
          (IsSound-entries_until _ c.self.invariant.consistent.sound level)
          (in_step-undo_until level old c.self.invariant.consistent.may_decide.in_step) c.undo_until.ensures.kept;
      counted = subst (λ (t : Trail). AreCounted c.uncount_above.new.self inside.queue.clauses t.entries
          inside.loaded inside.disjunctions) (sym c.undo_until.ensures.kept)
          (keeps_counted c.uncount_above.ensures.known (c.uncount_above.ensures.follows _) c.self.invariant.counted);
      marked = subst (HasMarks (record st { trail = new.entries; place = new.place })) (sym c.cut_to.ensures)
          (marks_cut st inside.marks c.self.invariant.marked new (length (entries_until level old.entries)) (cut
          ∙ kept_front level old.entries));
    }

pub uncount_above-requires : goal.uncount_above-requires
uncount_above-requires g c = c.self.invariant.counted.follows.within

pub returns-clause-queue_state : goal.returns-clause-queue_state
returns-clause-queue_state g c =
    subst (λ (x : Trail). queue_state_of c.self.inside.queue x
    ≡ taken_back x.entries (queue_state_of c.self.inside.queue c.self.inside.trail))
    (sym c.undo_until.ensures.kept) refl
    ∙ ap (λ (k : StoreState g.row.D.Denot g.row.D-NameId.Denot g.row.D-SolvableId.Denot g.row.D-NameId-Scores.Denot).
    taken_back c.undo_until.new.self.entries k.queue_state) c.self.view_is
