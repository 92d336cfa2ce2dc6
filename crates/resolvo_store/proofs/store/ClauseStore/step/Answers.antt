use Rattle.std.proofs.Common.{subst}
use Rattle.resolvo_store.proofs.Words.{command_of, IsSound, reply_of, Store, store_of, StoreState}
use Rattle.resolvo_store.specs.Store.{Provider, gathered}
use Rattle.resolvo_store.proofs.KnownLemmas.{IsLawful}
use Rattle.resolvo_store.proofs.CallerLaws.{store_in}
use Rattle.resolvo_store.proofs.ForbiddingLaws.{forbids_two}
use Rattle.resolvo_store.proofs.SaturatedLaws.{refusal_leaves}
use Rattle.resolvo_store.proofs.SoundSteps.{IsSound-step}
use Rattle.resolvo_store.proofs.store.ClauseStore.step.Given.{Over}
use Rattle.resolvo_store.proofs.store.ClauseStore.step.Goals as goal

-- the provider's functions
abbrev given : (g : Over) → g.row.D.Denot → Provider g.row.D-NameId.Denot g.row.D-SolvableId.Denot
given g = gathered g.D.NameId.PartialEq.eq g.D.SolvableId.PartialEq.eq g.D.NameId.Slots.IdMap.is_too_large
    g.D.SolvableId.Slots.IdMap.is_too_large g.D.SolvableId.Set.IdSet.is_too_large g.D.NameId.SolverId.are_many
    g.D.Interner.universe g.D.DependencyProvider.answers

-- its laws
abbrev lawful : (g : Over) (p : g.row.D.Denot) → IsLawful (given g p)
lawful g p = record {
  reflexive = g.met.D.SolvableId.Eq.laws.refl;
  same = g.met.D.SolvableId.SameValue.same;
  same_names = g.met.D.NameId.SameValue.same;
  candidates = g.met.D.DependencyProvider.candidates_known p;
  order = g.met.D.DependencyProvider.order_permutes p;
}

-- the abstract store
abbrev store : (g : Over) → StoreState g.row.D.Denot g.row.D-NameId.Denot g.row.D-SolvableId.Denot
    g.row.D-NameId-Scores.Denot → Store g.row.D-NameId.Denot g.row.D-SolvableId.Denot
store g = store_of (given g) g.D.NameId.Scores.IdMap.value_at

pub returns-clause-refused : goal.returns-clause-refused
returns-clause-refused g c =
    refusal_leaves (store g c.args.self.now) (store g c.dispatch.new.self) (command_of c.args.command.now)
    (reply_of c.dispatch.result)
    (subst (λ k. IsSound (store g k)) c.self.view_is c.self.invariant.consistent.sound) c.dispatch.ensures.step

pub returns-clause-sound : goal.returns-clause-sound
returns-clause-sound g c =
    IsSound-step (command_of c.args.command.now) (reply_of c.dispatch.result) (lawful g c.args.self.now.provider)
    (subst (λ k. IsSound (store g k)) c.self.view_is c.self.invariant.consistent.sound) c.dispatch.ensures.step

pub returns-clause-at_most_one : goal.returns-clause-at_most_one
returns-clause-at_most_one g c = let sound = returns-clause-sound g c in forbids_two (store_in sound) sound
