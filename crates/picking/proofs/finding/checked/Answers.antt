use Rattle.std.proofs.Common.{◌≡◌, true, rules, subst, sym, take}
use Rattle.resolvo_pool.specs.Functions.{Provider, gathered}
use Rattle.solutions.specs.Wishes.{AreGranted, alternatives_of}
use Rattle.picking.proofs.finding.checked.Given.{Over}
use Rattle.picking.proofs.finding.checked.Goals as goal

-- the provider's functions
abbrev provided : (g : Over) → g.row.D.Denot → Provider g.row.D-NameId.Denot g.row.D-SolvableId.Denot
provided g = gathered g.D.NameId.PartialEq.eq g.D.SolvableId.PartialEq.eq g.D.NameId.Slots.IdMap.is_too_large
    g.D.SolvableId.Slots.IdMap.is_too_large g.D.SolvableId.Set.IdSet.is_too_large g.D.NameId.SolverId.are_many
    g.D.Interner.universe g.D.DependencyProvider.answers

pub returns-clause-granted : goal.returns-clause-granted
returns-clause-granted g c = λ first below granted.
    let wishes = alternatives_of c.args.request.now.wishes.now in
    c.in_ok-best_up_to.ensures.granted first below
    (subst (λ picked. AreGranted (provided g c.args.provider.now) picked (take first wishes))
    (sym c.deref-2.ensures.value) granted)

pub returns-clause-caused : goal.returns-clause-caused
returns-clause-caused g c =
    let yes : c.in_ok-is_solution_without_spare.field-0 ≡ true = search rules in
    c.in_ok-is_solution_without_spare.ensures.caused yes

pub returns-clause-needed : goal.returns-clause-needed
returns-clause-needed g c =
    let yes : c.in_ok-is_solution_without_spare.field-0 ≡ true = search rules in
    c.in_ok-is_solution_without_spare.ensures.needed yes

pub returns-clause-none_spare : goal.returns-clause-none_spare
returns-clause-none_spare g c =
    let yes : c.in_ok-is_solution_without_spare.field-0 ≡ true = search rules in
    c.in_ok-is_solution_without_spare.ensures.none_spare yes
