use Rattle.std.proofs.Common.{refl, subst}
use Rattle.resolvo_store.proofs.Words.{queue_state_of, references, StoreState, WalksNothing}
use Rattle.resolvo_store.proofs.CountedLemmas.{counted_still}
use Rattle.resolvo_store.proofs.InvariantLemmas.{after_question}
use Rattle.resolvo_store.proofs.WalkLemmas.{walks_still}
use Rattle.resolvo_store.proofs.store.ClauseStore.set_standard.Goals as goal

pub invariant_of-self : goal.invariant_of-self
invariant_of-self g c =
    let inside = c.self.inside in
    record {
      consistent = after_question c.self.invariant.consistent refl c.set_standard_activity_params.ensures.unchanged
          (c.set_standard_activity_params.ensures.stands (references
          (g.D.Interner.universe inside.cache.provider) inside.loaded inside.disjunctions)
          c.self.invariant.consistent.may_decide.stands);
      counted = counted_still c.set_standard_activity_params.ensures.unchanged.clauses.clauses refl
          c.self.invariant.counted;
      marked = c.self.invariant.marked;
    }

pub returns-clause-queue_state : goal.returns-clause-queue_state
returns-clause-queue_state g c =
    let call = c.set_standard_activity_params in
    subst (λ (k : StoreState g.row.D.Denot g.row.D-NameId.Denot g.row.D-SolvableId.Denot
    g.row.D-NameId-Scores.Denot). WalksNothing k.queue_state (queue_state_of call.new.self c.self.inside.trail))
    c.self.view_is
    (walks_still c.self.inside.queue call.new.self c.self.inside.trail call.ensures.unchanged.synced
    call.ensures.walks call.ensures.owed)
