use Rattle.std.proofs.Common.{◌≡◌, ◌∙◌, sym, subst, true}
use Rattle.resolvo_store.proofs.Words.{knows_requirement, store_of, StoreState}
use Rattle.resolvo_store.specs.Store.{gathered}
use Rattle.resolvo_store.proofs.LoadingLemmas.{loaded-now}
use Rattle.resolvo_store.proofs.store.ClauseStore.load.Goals as goal

pub returns-clause-kept : goal.returns-clause-kept
returns-clause-kept g c =
    let store = store_of (gathered g.D.NameId.PartialEq.eq g.D.SolvableId.PartialEq.eq
    g.D.NameId.Slots.IdMap.is_too_large g.D.SolvableId.Slots.IdMap.is_too_large
    g.D.SolvableId.Set.IdSet.is_too_large g.D.NameId.SolverId.are_many g.D.Interner.universe
    g.D.DependencyProvider.answers) g.D.NameId.Scores.IdMap.value_at in
    let r = c.args.requirement in
    let known = subst (λ (k : StoreState g.row.D.Denot g.row.D-NameId.Denot g.row.D-SolvableId.Denot
    g.row.D-NameId-Scores.Denot). knows_requirement (g.D.Interner.universe k.provider) r ≡ true) c.self.view_is
    (subst (λ p. knows_requirement (g.D.Interner.universe p) r ≡ true) c.provider.ensures.provider
    (sym c.knows_requirement.ensures ∙ c.if-not-knows_requirement.false)) in
    loaded-now (store c.args.self.now) r (store c.load_new.new.self) known c.in_ok-load_new.ensures.ok
