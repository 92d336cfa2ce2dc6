use Rattle.std.proofs.Common.{◌≡◌, ◌∙◌, ◌-◌, length, ap, arith, refl, subst, sym}
use Rattle.std.proofs.lemmas.Grind.{common_steps}
use Rattle.resolvo_store.proofs.Words.{AreCounted, HasMarks, queue_state_of, StoreState, taken_back, Trail, undo_last}
use Rattle.resolvo_store.proofs.CountedLemmas.{keeps_counted}
use Rattle.resolvo_store.proofs.CallerLaws.{store_in}
use Rattle.resolvo_store.proofs.InvariantLemmas.{after_trail}
use Rattle.resolvo_store.proofs.MarkedLaws.{marks_cut}
use Rattle.resolvo_store.proofs.SyncedLemmas.{in_step-undo_last}
use Rattle.resolvo_store.proofs.SoundLaws.{IsSound-without_newest}
use Rattle.resolvo_store.proofs.store.ClauseStore.undo_last.Goals as goal

pub invariant_of-self : goal.invariant_of-self
invariant_of-self g c =
    let inside = c.self.inside in
    let old = inside.trail in
    let new = c.undo_last-last.new.self in
    let cut = ap (λ (t : Trail). t.entries) c.undo_last-last.ensures.trail in
    let st = store_in c.self.invariant.consistent.sound in
    record {
      consistent = after_trail c.self.invariant.consistent (undo_last old)
          (IsSound-without_newest _ c.self.invariant.consistent.sound)
          (in_step-undo_last old c.self.invariant.consistent.may_decide.in_step) c.undo_last-last.ensures.trail;
      counted = subst (λ (t : Trail). AreCounted c.uncount_newest.new.self inside.queue.clauses t.entries
          inside.loaded inside.disjunctions) (sym c.undo_last-last.ensures.trail)
          (keeps_counted c.uncount_newest.ensures.known (c.uncount_newest.ensures.follows _) c.self.invariant.counted);
      marked = subst (HasMarks (record st { trail = new.entries; place = new.place })) (sym c.cut_to.ensures)
          (marks_cut st inside.marks c.self.invariant.marked new (length old.entries - 1) cut);
    }

pub returns-then-is_empty-clause-step : goal.returns-then-is_empty-clause-step
returns-then-is_empty-clause-step g c = grind (arith, common_steps)

pub undo_last-last-requires : goal.undo_last-last-requires
undo_last-last-requires g c = grind (arith, common_steps)

pub returns-clause-step : goal.returns-clause-step
returns-clause-step g c = grind (arith, common_steps)

pub returns-clause-queue_state : goal.returns-clause-queue_state
returns-clause-queue_state g c =
    subst (λ (x : Trail). queue_state_of c.self.inside.queue x
    ≡ taken_back x.entries (queue_state_of c.self.inside.queue c.self.inside.trail))
    (sym c.undo_last-last.ensures.trail) refl
    ∙ ap (λ (k : StoreState g.row.D.Denot g.row.D-NameId.Denot g.row.D-SolvableId.Denot g.row.D-NameId-Scores.Denot).
    taken_back c.undo_last-last.new.self.entries k.queue_state) c.self.view_is
