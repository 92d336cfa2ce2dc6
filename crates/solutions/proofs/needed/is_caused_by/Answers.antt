use Rattle.std.proofs.Common.{◌≡◌, rules, subst, sym}
use Rattle.solutions.proofs.Words.{alternatives_of, gathered, is_kept, IsCausedBy, Provider, Requested, Required}
use Rattle.solutions.proofs.Words.{Wished}
use Rattle.solutions.proofs.DecisionLemmas.{answered}
use Rattle.solutions.proofs.needed.is_caused_by.Given.{Over}
use Rattle.solutions.proofs.needed.is_caused_by.Goals as goal

-- the provider's functions
abbrev provided : (g : Over) → g.row.D.Denot → Provider g.row.D-NameId.Denot g.row.D-SolvableId.Denot
provided g = gathered g.D.NameId.PartialEq.eq g.D.SolvableId.PartialEq.eq g.D.NameId.Slots.IdMap.is_too_large
    g.D.SolvableId.Slots.IdMap.is_too_large g.D.SolvableId.Set.IdSet.is_too_large g.D.NameId.SolverId.are_many
    g.D.Interner.universe g.D.DependencyProvider.answers

pub returns-in-Requested : goal.returns-in-Requested
returns-in-Requested g c =
    let p = provided g c.args.selection.now.provider.now in
    let has = is_kept g.D.SolvableId.PartialEq.eq (g.D.SolvableId.Set.IdSet.has c.args.selection.now.picked)
    c.args.selection.now.left_out in
    let request = c.args.request.now in
    let is : c.args.cause ≡ Requested c.in-Requested.place = search rules in
    answered c.is_requested_at.result
    (λ b offered e. subst (λ cause. IsCausedBy p has request.requirements.now
    (alternatives_of request.wishes.now) c.args.before.now cause c.args.solvable)
    (sym is) (offered e))
    c.is_requested_at.ensures

pub returns-in-Wished : goal.returns-in-Wished
returns-in-Wished g c =
    let p = provided g c.args.selection.now.provider.now in
    let has = is_kept g.D.SolvableId.PartialEq.eq (g.D.SolvableId.Set.IdSet.has c.args.selection.now.picked)
    c.args.selection.now.left_out in
    let request = c.args.request.now in
    let is : c.args.cause ≡ Wished c.in-Wished.place = search rules in
    λ e. subst (λ cause. IsCausedBy p has request.requirements.now
    (alternatives_of request.wishes.now) c.args.before.now cause c.args.solvable)
    (sym is) (c.is_wished_at.ensures e)

pub returns-in-Required : goal.returns-in-Required
returns-in-Required g c =
    let p = provided g c.args.selection.now.provider.now in
    let has = is_kept g.D.SolvableId.PartialEq.eq (g.D.SolvableId.Set.IdSet.has c.args.selection.now.picked)
    c.args.selection.now.left_out in
    let request = c.args.request.now in
    let is : c.args.cause ≡ Required c.in-Required.place = search rules in
    answered c.is_required_by.result
    (λ b caused e. subst (λ cause. IsCausedBy p has request.requirements.now
    (alternatives_of request.wishes.now) c.args.before.now cause c.args.solvable)
    (sym is) (caused e))
    c.is_required_by.ensures
