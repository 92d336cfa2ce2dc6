use Rattle.std.proofs.Common.{◌≡◌, ◌∙◌, refl, sym, subst, true}
use Rattle.resolvo_store.proofs.Words.{Bump, done, queue_state_of, references, replied, Step, Store, store_of}
use Rattle.resolvo_store.proofs.Words.{StoreState, WalksNothing}
use Rattle.resolvo_store.specs.Store.{Provider, gathered}
use Rattle.resolvo_store.proofs.AddingLemmas.{step_grown, first_of_bump, always_said}
use Rattle.resolvo_store.proofs.CallerLaws.{store_in}
use Rattle.resolvo_store.proofs.CountedLemmas.{counted_still}
use Rattle.resolvo_store.proofs.InvariantLemmas.{after_bumped}
use Rattle.resolvo_store.proofs.PartOutcomes.{bumped_or_same}
use Rattle.resolvo_store.proofs.WalkLemmas.{walks_no_more, walks_still}
use Rattle.resolvo_store.proofs.store.ClauseStore.bump.Given.{Over}
use Rattle.resolvo_store.proofs.store.ClauseStore.bump.Goals as goal

-- the provider's functions
abbrev given : (g : Over) → g.row.D.Denot → Provider g.row.D-NameId.Denot g.row.D-SolvableId.Denot
given g = gathered g.D.NameId.PartialEq.eq g.D.SolvableId.PartialEq.eq g.D.NameId.Slots.IdMap.is_too_large
    g.D.SolvableId.Slots.IdMap.is_too_large g.D.SolvableId.Set.IdSet.is_too_large g.D.NameId.SolverId.are_many
    g.D.Interner.universe g.D.DependencyProvider.answers

pub invariant_of-self : goal.invariant_of-self
invariant_of-self g c =
    let inside = c.self.inside in
    record {
      consistent = after_bumped c.self.invariant.consistent g.D.NameId.PartialEq.eq g.met.D.NameId.SameValue.same
          c.args.name c.args.amount c.raise.result refl c.raise.ensures.clauses c.raise.ensures.synced
          (c.raise.ensures.stands (references (g.D.Interner.universe inside.cache.provider) inside.loaded
          inside.disjunctions) c.self.invariant.consistent.may_decide.stands)
          c.raise.ensures.bumped c.raise.ensures.hot c.raise.ensures.same_scores c.raise.ensures.same_hot;
      counted = counted_still c.raise.ensures.clauses.clauses refl c.self.invariant.counted;
      marked = c.self.invariant.marked;
    }

pub returns-clause-step : goal.returns-clause-step
returns-clause-step g c =
    let name = c.args.name in
    let st = store_in c.self.invariant.consistent.sound in
    let after : Store g.row.D-NameId.Denot g.row.D-SolvableId.Denot =
    record st {
      scores = g.D.NameId.Scores.IdMap.value_at c.raise.new.scores.map;
      requires =
          c.raise.new.queue.clauses;
    } in
    let large = g.D.NameId.Slots.IdMap.is_too_large name in
    let parts = bumped_or_same st name c.args.amount (g.D.NameId.Scores.IdMap.value_at c.raise.new.scores.map)
    c.raise.result refl c.raise.ensures.clauses.clauses c.raise.ensures.bumped c.raise.ensures.same_scores in
    subst (λ (k : StoreState g.row.D.Denot g.row.D-NameId.Denot g.row.D-SolvableId.Denot
    g.row.D-NameId-Scores.Denot). Step (store_of (given g) g.D.NameId.Scores.IdMap.value_at k)
    (Bump name c.args.amount) (replied done c.raise.result) after) c.self.view_is
    (step_grown st done (Bump name c.args.amount) large c.raise.result after refl
    (first_of_bump st name c.args.amount
    (subst (λ p. (g.D.Interner.universe p).knows_name name ≡ true) c.provider.ensures.provider
    (sym c.knows_name.ensures ∙ c.if-not-knows_name.false)))
    refl refl (λ h. h) (always_said c.raise.result) parts.0 parts.1 c.raise.ensures.refused c.raise.ensures.too_large)

pub returns-then-not-knows_name-clause-queue_state : goal.returns-then-not-knows_name-clause-queue_state
returns-then-not-knows_name-clause-queue_state g c = walks_no_more c.args.self.now.queue_state

pub returns-clause-queue_state : goal.returns-clause-queue_state
returns-clause-queue_state g c =
    subst (λ (k : StoreState g.row.D.Denot g.row.D-NameId.Denot g.row.D-SolvableId.Denot
    g.row.D-NameId-Scores.Denot). WalksNothing k.queue_state
    (queue_state_of c.raise.new.queue c.self.inside.trail)) c.self.view_is
    (walks_still c.self.inside.queue c.raise.new.queue c.self.inside.trail c.raise.ensures.synced
    c.raise.ensures.walks c.raise.ensures.owed)
