use Rattle.std.proofs.Common.{◌≡◌, ◌∙◌, sym, ap, subst, Some, slice_get, option_map}
use Rattle.resolvo_store.proofs.Words.{literals_of, store_of, stored_of, StoreState}
use Rattle.resolvo_store.specs.Store.{Provider, gathered}
use Rattle.resolvo_store.proofs.CallerLaws.{store_in}
use Rattle.resolvo_store.proofs.ListLemmas.{literals-kept}
use Rattle.resolvo_store.proofs.store.ClauseStore.literals.Given.{Over}
use Rattle.resolvo_store.proofs.store.ClauseStore.literals.Goals as goal

-- the provider's functions
abbrev given : (g : Over) → g.row.D.Denot → Provider g.row.D-NameId.Denot g.row.D-SolvableId.Denot
given g = gathered g.D.NameId.PartialEq.eq g.D.SolvableId.PartialEq.eq g.D.NameId.Slots.IdMap.is_too_large
    g.D.SolvableId.Slots.IdMap.is_too_large g.D.SolvableId.Set.IdSet.is_too_large g.D.NameId.SolverId.are_many
    g.D.Interner.universe g.D.DependencyProvider.answers

pub returns-clause-ok : goal.returns-clause-ok
returns-clause-ok g c =
    let inside = c.self.inside in
    let st = store_in c.self.invariant.consistent.sound in
    let found : slice_get inside.clauses.clauses c.args.clause ≡ Some c.in-Some.clause = sym c.get.ensures
    ∙ c.in-Some.is in
    let same = literals-kept c.learnt-learnt.result.now inside.clauses.learnt inside.loaded inside.disjunctions
    c.learnt-learnt.ensures in
    subst (λ (k : StoreState g.row.D.Denot g.row.D-NameId.Denot g.row.D-SolvableId.Denot
    g.row.D-NameId-Scores.Denot). Some c.in_ok-literals.literals.items
    ≡ option_map (literals_of (stored_of (store_of (given g) g.D.NameId.Scores.IdMap.value_at k)))
    (slice_get k.clauses c.args.clause))
    c.self.view_is
    (ap Some (c.in_ok-literals.ensures.ok ∙ ap (λ kept. literals_of kept c.in-Some.clause) same)
    ∙ ap (option_map (literals_of (stored_of st))) (sym found))
