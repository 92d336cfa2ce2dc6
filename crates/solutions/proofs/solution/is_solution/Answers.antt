use Rattle.std.proofs.Common.{subst}
use Rattle.solutions.proofs.Words.{All, Decides, gathered, is_kept, IsFit, IsSatisfied, Provider}
use Rattle.solutions.proofs.DecisionLemmas.{answered}
use Rattle.solutions.proofs.SolutionLemmas.{fit_decide, requested_fails}
use Rattle.solutions.proofs.solution.is_solution.Given.{Over}
use Rattle.solutions.proofs.solution.is_solution.Goals as goal

-- the provider's functions
abbrev provided : (g : Over) → g.row.D.Denot → Provider g.row.D-NameId.Denot g.row.D-SolvableId.Denot
provided g = gathered g.D.NameId.PartialEq.eq g.D.SolvableId.PartialEq.eq g.D.NameId.Slots.IdMap.is_too_large
    g.D.SolvableId.Slots.IdMap.is_too_large g.D.SolvableId.Set.IdSet.is_too_large g.D.NameId.SolverId.are_many
    g.D.Interner.universe g.D.DependencyProvider.answers

pub returns-then-not-branch-2 : goal.returns-then-not-branch-2
returns-then-not-branch-2 g c =
    let p = provided g c.args.provider.now in
    let requested = c.args.requested.now in
    let selection = c.in_ok-selection.selection in
    let has = is_kept g.D.SolvableId.PartialEq.eq (g.D.SolvableId.Set.IdSet.has selection.picked) selection.left_out in
    requested_fails p requested c.args.picked.now has c.in_ok-selection.ensures.picked c.in_ok-are_satisfied.field-0
    c.if-not-branch-2.true
    (subst (λ provider. Decides c.in_ok-are_satisfied.field-0 (All (IsSatisfied (provided g provider) has) requested))
    c.in_ok-selection.ensures.provider c.in_ok-are_satisfied.ensures)

pub returns : goal.returns
returns g c =
    let p = provided g c.args.provider.now in
    let requested = c.args.requested.now in
    let picked = c.args.picked.now in
    let selection = c.in_ok-selection.selection in
    let has = is_kept g.D.SolvableId.PartialEq.eq (g.D.SolvableId.Set.IdSet.has selection.picked) selection.left_out in
    let same = c.in_ok-selection.ensures.provider in
    answered c.are_all_fit.result
    (λ b fit. fit_decide p requested picked has c.in_ok-selection.ensures.picked
    c.in_ok-are_of_different_packages.field-0 c.in_ok-are_satisfied.field-0 b
    c.if-not-branch.false c.in_ok-are_of_different_packages.ensures
    c.if-not-branch-2.false
    (subst (λ provider. Decides c.in_ok-are_satisfied.field-0
    (All (IsSatisfied (provided g provider) has) requested)) same c.in_ok-are_satisfied.ensures)
    (subst (λ provider. Decides b (All (IsFit (provided g provider) has) picked)) same fit))
    c.are_all_fit.ensures
