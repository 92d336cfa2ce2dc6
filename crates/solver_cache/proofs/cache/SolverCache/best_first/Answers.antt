use Rattle.std.proofs.Common.{◌≡◌, true, false, ap, subst, sym}
use Rattle.solver_cache.proofs.Words.{favored_first, gathered, IfOk, is_set_queried, Provider}
use Rattle.solver_cache.proofs.IdLemmas.{asked_fits}
use Rattle.solver_cache.proofs.cache.SolverCache.best_first.Given.{Over}
use Rattle.solver_cache.proofs.cache.SolverCache.best_first.Goals as goal

-- the provider's functions
abbrev provided : (g : Over) → g.row.D.Denot → Provider g.row.D-NameId.Denot g.row.D-SolvableId.Denot
provided g = gathered g.D.NameId.PartialEq.eq g.D.SolvableId.PartialEq.eq g.D.NameId.Slots.IdMap.is_too_large
    g.D.SolvableId.Slots.IdMap.is_too_large g.D.SolvableId.Set.IdSet.is_too_large g.D.NameId.SolverId.are_many
    g.D.Interner.universe g.D.DependencyProvider.answers

pub returns-clause-ok : goal.returns-clause-ok
returns-clause-ok g c =
    let alike = g.D.SolvableId.PartialEq.eq in
    let answers = g.D.DependencyProvider.answers in
    let list = c.args.list.items in
    subst (λ f. IfOk c.put_in_order.result (λ l. l.items ≡ favored_first alike f
    ((answers c.args.self.now.provider).order list))) c.favored-favored.ensures
    (subst (λ q. IfOk c.put_in_order.result (λ l. l.items ≡ favored_first alike c.favored-favored.result
    ((answers q).order list)))
    (ap (λ v. v.provider) c.self.view_is) c.put_in_order.ensures.ok)

pub returns-clause-fit : goal.returns-clause-fit
returns-clause-fit g c =
    let set = c.args.set in
    let inside = c.self.inside in
    subst (λ q. g.D.NameId.Slots.IdMap.is_too_large ((g.D.Interner.universe q).set_name set) ≡ false)
    (ap (λ v. v.provider) c.self.view_is)
    (asked_fits (provided g inside.provider) _ c.self.invariant g.met.D.NameId.SameValue.same set
    (subst (λ v. is_set_queried (provided g v.provider) v set ≡ true) (sym c.self.view_is) c.requires.queried))
