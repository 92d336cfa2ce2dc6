use Rattle.std.proofs.Common.{subst}
use Rattle.solutions.specs.Reasons.{NoReasonSpare}
use Rattle.resolvo_pool.specs.Functions.{Provider, gathered}
use Rattle.solutions.proofs.ReasonLaws.{none_by_reasons}
use Rattle.picking.proofs.finding.refuted.Given.{Over}
use Rattle.picking.proofs.finding.refuted.Goals as goal

-- the provider's functions
abbrev provided : (g : Over) → g.row.D.Denot → Provider g.row.D-NameId.Denot g.row.D-SolvableId.Denot
provided g = gathered g.D.NameId.PartialEq.eq g.D.SolvableId.PartialEq.eq g.D.NameId.Slots.IdMap.is_too_large
    g.D.SolvableId.Slots.IdMap.is_too_large g.D.SolvableId.Set.IdSet.is_too_large g.D.NameId.SolverId.are_many
    g.D.Interner.universe g.D.DependencyProvider.answers

pub returns-then-is_shown-clause-none : goal.returns-then-is_shown-clause-none
returns-then-is_shown-clause-none g c =
    let p = provided g c.args.provider.now in
    none_by_reasons p g.met.D.NameId.Eq.laws.refl g.met.D.SolvableId.Eq.laws.refl g.met.D.SolvableId.SameValue.same
    c.args.request.now.requirements.now _ (c.in_ok-is_shown.ensures.so c.if-is_shown.true)
    (c.in_ok-is_shown.ensures.enough c.if-is_shown.true)

pub returns-then-is_shown-clause-reasons_enough : goal.returns-then-is_shown-clause-reasons_enough
returns-then-is_shown-clause-reasons_enough g c = c.in_ok-is_shown.ensures.enough c.if-is_shown.true

pub returns-then-is_shown-clause-no_reason_spare : goal.returns-then-is_shown-clause-no_reason_spare
returns-then-is_shown-clause-no_reason_spare g c =
    let p = provided g c.args.provider.now in
    λ yes. subst (NoReasonSpare p) c.deref.ensures.value (c.in_ok-none_spare.ensures yes)

pub returns-clause-no_reason_spare : goal.returns-clause-no_reason_spare
returns-clause-no_reason_spare g c =
    let p = provided g c.args.provider.now in
    λ yes. subst (NoReasonSpare p) c.deref.ensures.value (c.in_ok-none_spare.ensures yes)
