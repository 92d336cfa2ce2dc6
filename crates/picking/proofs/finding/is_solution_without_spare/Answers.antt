use Rattle.std.proofs.Common.{subst}
use Rattle.resolvo_pool.specs.Functions.{Provider, gathered}
use Rattle.solutions.specs.Wishes.{NoneSpare, alternatives_of}
use Rattle.picking.proofs.finding.is_solution_without_spare.Given.{Over}
use Rattle.picking.proofs.finding.is_solution_without_spare.Goals as goal

-- the provider's functions
abbrev provided : (g : Over) → g.row.D.Denot → Provider g.row.D-NameId.Denot g.row.D-SolvableId.Denot
provided g = gathered g.D.NameId.PartialEq.eq g.D.SolvableId.PartialEq.eq g.D.NameId.Slots.IdMap.is_too_large
    g.D.SolvableId.Slots.IdMap.is_too_large g.D.SolvableId.Set.IdSet.is_too_large g.D.NameId.SolverId.are_many
    g.D.Interner.universe g.D.DependencyProvider.answers

-- src/finding.rt:149:1
pub returns-in-None-clause-none_spare : goal.returns-in-None-clause-none_spare
returns-in-None-clause-none_spare g c = λ e.
    let request = c.args.request.now in
    subst (NoneSpare (provided g c.args.provider.now) request.requirements.now (alternatives_of request.wishes.now))
    c.deref-4.ensures.value
    (c.in_ok-find_spare.ensures.none c.in-None.is)
