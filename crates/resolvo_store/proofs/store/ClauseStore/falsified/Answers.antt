use Rattle.std.proofs.Common.{◌≡◌, refl, sym, subst}
use Rattle.std.specs.Prelude.{All, option_map}
use Rattle.resolvo_store.proofs.Words.{CanWalk, falsified_clause, first_falsified, literals_in, references, rows_in}
use Rattle.resolvo_store.proofs.Words.{store_of, stored_of, StoreState, values_in}
use Rattle.resolvo_store.specs.Store.{Provider, gathered}
use Rattle.resolvo_store.proofs.AskingLemmas.{can_walk, seen_by_store}
use Rattle.resolvo_store.proofs.CallerLaws.{store_in}
use Rattle.resolvo_store.proofs.store.ClauseStore.falsified.Given.{Over}
use Rattle.resolvo_store.proofs.store.ClauseStore.falsified.Goals as goal

-- the provider's functions
abbrev given : (g : Over) → g.row.D.Denot → Provider g.row.D-NameId.Denot g.row.D-SolvableId.Denot
given g = gathered g.D.NameId.PartialEq.eq g.D.SolvableId.PartialEq.eq g.D.NameId.Slots.IdMap.is_too_large
    g.D.SolvableId.Slots.IdMap.is_too_large g.D.SolvableId.Set.IdSet.is_too_large g.D.NameId.SolverId.are_many
    g.D.Interner.universe g.D.DependencyProvider.answers

pub falsified-requires-clause-walkable : goal.falsified-requires-clause-walkable
falsified-requires-clause-walkable g c =
    let inside = c.self.inside in
    subst (λ p. All (CanWalk (references (g.D.Interner.universe p) inside.loaded inside.disjunctions))
    inside.queue.clauses) (sym c.provider.ensures.provider)
    (can_walk c.self.invariant.consistent refl refl)

pub returns : goal.returns
returns g c =
    let inside = c.self.inside in
    let kept = stored_of (store_in c.self.invariant.consistent.sound) in
    let found = subst (λ p. let refs = references (g.D.Interner.universe p) inside.loaded inside.disjunctions in
    c.falsified.result ≡ option_map (λ q. q.clause_id) (first_falsified (values_in c.map.result.now)
    (literals_in refs) (rows_in refs) inside.queue.clauses)) c.provider.ensures.provider c.falsified.ensures in
    subst (λ (k : StoreState g.row.D.Denot g.row.D-NameId.Denot g.row.D-SolvableId.Denot
    g.row.D-NameId-Scores.Denot). c.falsified.result ≡ option_map (λ q. q.clause_id)
    (falsified_clause (store_of (given g) g.D.NameId.Scores.IdMap.value_at k))) c.self.view_is
    (seen_by_store (g.D.Interner.universe inside.cache.provider) inside.loaded inside.disjunctions kept.learnt
    kept.lists
    (λ val literals_of rows_of. c.falsified.result ≡ option_map (λ q. q.clause_id)
    (first_falsified val literals_of rows_of inside.queue.clauses)) c.map.ensures.values found)
