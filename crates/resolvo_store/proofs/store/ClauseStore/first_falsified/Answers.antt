use Rattle.std.proofs.Common.{◌≡◌, ◌∙◌, ap, refl, sym, subst}
use Rattle.std.specs.Prelude.{option_map}
use Rattle.resolvo_store.proofs.Words.{clause_at, counted, false_by, falsified_clause, first_falsified, IfOk}
use Rattle.resolvo_store.proofs.Words.{IsFirstFalsified, placed, store_of, stored_of, StoreState, val}
use Rattle.resolvo_store.specs.Store.{Provider, gathered}
use Rattle.resolvo_store.proofs.AskingLemmas.{can_walk, seen_by_store}
use Rattle.resolvo_store.proofs.CallerLaws.{store_in}
use Rattle.resolvo_store.proofs.CountedScan.{first_counted}
use Rattle.resolvo_store.proofs.store.ClauseStore.first_falsified.Given.{Over}
use Rattle.resolvo_store.proofs.store.ClauseStore.first_falsified.Goals as goal

-- the provider's functions
abbrev given : (g : Over) → g.row.D.Denot → Provider g.row.D-NameId.Denot g.row.D-SolvableId.Denot
given g = gathered g.D.NameId.PartialEq.eq g.D.SolvableId.PartialEq.eq g.D.NameId.Slots.IdMap.is_too_large
    g.D.SolvableId.Slots.IdMap.is_too_large g.D.SolvableId.Set.IdSet.is_too_large g.D.NameId.SolverId.are_many
    g.D.Interner.universe g.D.DependencyProvider.answers

pub first_falsified-requires-clause-there : goal.first_falsified-requires-clause-there
first_falsified-requires-clause-there g c = λ k d within. (let parts =
    c.self.invariant.consistent.may_decide.stands.parts k d within in
    record { lists = parts.lists; disjunction = parts.disjunction })

pub invariant_of-self : goal.invariant_of-self
invariant_of-self g c = record {
  consistent = c.self.invariant.consistent;
  counted = c.first_falsified.ensures.counted;
  marked = c.self.invariant.marked;
}

pub returns-in-Ok-clause-found : goal.returns-in-Ok-clause-found
returns-in-Ok-clause-found g c =
    let inside = c.self.inside in
    let kept = stored_of (store_in c.self.invariant.consistent.sound) in
    let universe = g.D.Interner.universe inside.cache.provider in
    let values = val inside.trail.entries in
    let first = subst (λ r. IfOk r (IsFirstFalsified (counted inside.loaded inside.disjunctions
    (placed inside.queue.clauses) (false_by inside.trail.entries)))) c.in-Ok.is c.first_falsified.ensures.first in
    let found = c.id_at.ensures ∙ ap (option_map (λ q. q.clause_id))
    (first_counted universe inside.loaded inside.disjunctions values inside.queue.clauses
    (can_walk c.self.invariant.consistent refl refl) c.in-Ok.number first) in
    subst (λ (k : StoreState g.row.D.Denot g.row.D-NameId.Denot g.row.D-SolvableId.Denot
    g.row.D-NameId-Scores.Denot). c.id_at.result ≡ option_map (λ q. q.clause_id)
    (falsified_clause (store_of (given g) g.D.NameId.Scores.IdMap.value_at k))) c.self.view_is
    (seen_by_store universe inside.loaded inside.disjunctions kept.learnt kept.lists {seen = values} {val = values}
    (λ val_ literals_of rows_of. c.id_at.result ≡ option_map (λ q. q.clause_id)
    (first_falsified val_ literals_of rows_of inside.queue.clauses)) refl found)
