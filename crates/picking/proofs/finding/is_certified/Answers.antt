use Rattle.std.proofs.Common.{◌≡◌, true, subst}
use Rattle.std.specs.Prelude.{IfOk}
use Rattle.solutions.specs.Reasons.{AreEnough}
use Rattle.resolvo_pool.specs.Functions.{gathered}
use Rattle.picking.proofs.finding.is_certified.Goals as goal

pub returns-clause-enough : goal.returns-clause-enough
returns-clause-enough g c =
    let p = gathered g.D.NameId.PartialEq.eq g.D.SolvableId.PartialEq.eq g.D.NameId.Slots.IdMap.is_too_large
    g.D.SolvableId.Slots.IdMap.is_too_large g.D.SolvableId.Set.IdSet.is_too_large g.D.NameId.SolverId.are_many
    g.D.Interner.universe g.D.DependencyProvider.answers c.args.provider.now in
    subst (λ reasons. IfOk c.are_enough.result (λ yes. yes ≡ true → AreEnough p reasons)) c.deref-2.ensures.value
    c.are_enough.ensures
