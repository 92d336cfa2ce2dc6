use Rattle.std.proofs.Common.{◌≡◌, ◌∙◌, sym, subst, true, length}
use Rattle.resolvo_store.proofs.Words.{IfOk, nat_lt, store_of, StoreState, variable_of}
use Rattle.resolvo_store.specs.Store.{Provider, gathered}
use Rattle.resolvo_store.proofs.AddingLemmas.{step_asked}
use Rattle.resolvo_store.proofs.store.ClauseStore.watchers.Given.{Over}
use Rattle.resolvo_store.proofs.store.ClauseStore.watchers.Goals as goal

-- the provider's functions
abbrev given : (g : Over) → g.row.D.Denot → Provider g.row.D-NameId.Denot g.row.D-SolvableId.Denot
given g = gathered g.D.NameId.PartialEq.eq g.D.SolvableId.PartialEq.eq g.D.NameId.Slots.IdMap.is_too_large
    g.D.SolvableId.Slots.IdMap.is_too_large g.D.SolvableId.Set.IdSet.is_too_large g.D.NameId.SolverId.are_many
    g.D.Interner.universe g.D.DependencyProvider.answers

pub returns-clause-step : goal.returns-clause-step
returns-clause-step g c =
    let st = store_of (given g) g.D.NameId.Scores.IdMap.value_at c.args.self.now in
    let known = subst (λ (k : StoreState g.row.D.Denot g.row.D-NameId.Denot g.row.D-SolvableId.Denot
    g.row.D-NameId-Scores.Denot). nat_lt (variable_of c.args.literal) (length k.origins) ≡ true) c.self.view_is
    (subst (λ v. nat_lt v (length c.self.inside.variables) ≡ true) c.variable.ensures (sym c.knows_variable.ensures
    ∙ c.if-not-knows_variable.false)) in
    step_asked st (λ v. v.items) c.args.literal c.watchers.result known
    (subst (λ (k : StoreState g.row.D.Denot g.row.D-NameId.Denot g.row.D-SolvableId.Denot
    g.row.D-NameId-Scores.Denot). IfOk c.watchers.result (λ v. v.items
    ≡ (store_of (given g) g.D.NameId.Scores.IdMap.value_at k).watchers c.args.literal)) c.self.view_is
    c.watchers.ensures.ok)
    c.watchers.ensures.memory
