use Rattle.std.proofs.Common.{◌∙◌, ap, not, subst, sym}
use Rattle.solutions.proofs.Words.{gathered, is_kept, IsMet, Provider}
use Rattle.solutions.proofs.DecisionLemmas.{answered}
use Rattle.solutions.proofs.MeetingLemmas.{limit_met, need_met, unpicked}
use Rattle.solutions.proofs.meeting.is_met.Given.{Over}
use Rattle.solutions.proofs.meeting.is_met.Goals as goal

-- the provider's functions
abbrev provided : (g : Over) → g.row.D.Denot → Provider g.row.D-NameId.Denot g.row.D-SolvableId.Denot
provided g = gathered g.D.NameId.PartialEq.eq g.D.SolvableId.PartialEq.eq g.D.NameId.Slots.IdMap.is_too_large
    g.D.SolvableId.Slots.IdMap.is_too_large g.D.SolvableId.Set.IdSet.is_too_large g.D.NameId.SolverId.are_many
    g.D.Interner.universe g.D.DependencyProvider.answers

pub returns-in-Needs : goal.returns-in-Needs
returns-in-Needs g c =
    let p = provided g c.args.selection.now.provider.now in
    let picked = c.args.solvables.now in
    let has = is_kept g.D.SolvableId.PartialEq.eq (g.D.SolvableId.Set.IdSet.has c.args.selection.now.picked)
    c.args.selection.now.left_out in
    answered c.is_need_met.result
    (λ answer met yes. subst (IsMet p picked) (sym c.in-Needs.is)
    (need_met p picked has c.requires c.in-Needs.parent c.in-Needs.conditional (met yes)))
    c.is_need_met.ensures

pub returns-in-Lacks : goal.returns-in-Lacks
returns-in-Lacks g c =
    let p = provided g c.args.selection.now.provider.now in
    let picked = c.args.solvables.now in
    let has = is_kept g.D.SolvableId.PartialEq.eq (g.D.SolvableId.Set.IdSet.has c.args.selection.now.picked)
    c.args.selection.now.left_out in
    answered c.is_need_met-in-Lacks.result
    (λ answer met yes. subst (IsMet p picked) (sym c.in-Lacks.is)
    (need_met p picked has c.requires c.in-Lacks.parent c.in-Lacks.conditional (met yes)))
    c.is_need_met-in-Lacks.ensures

pub returns-in-Limits : goal.returns-in-Limits
returns-in-Limits g c =
    let p = provided g c.args.selection.now.provider.now in
    let picked = c.args.solvables.now in
    let has = is_kept g.D.SolvableId.PartialEq.eq (g.D.SolvableId.Set.IdSet.has c.args.selection.now.picked)
    c.args.selection.now.left_out in
    answered c.is_limit_met.result
    (λ answer met yes. subst (IsMet p picked) (sym c.in-Limits.is)
    (limit_met p picked has c.requires c.in-Limits.solvable c.in-Limits.set (met yes)))
    c.is_limit_met.ensures

pub returns-in-Unknown : goal.returns-in-Unknown
returns-in-Unknown g c =
    let p = provided g c.args.selection.now.provider.now in
    let picked = c.args.solvables.now in
    let has = is_kept g.D.SolvableId.PartialEq.eq (g.D.SolvableId.Set.IdSet.has c.args.selection.now.picked)
    c.args.selection.now.left_out in
    λ yes. subst (IsMet p picked) (sym c.in-Unknown.is) (unpicked p picked has c.requires c.in-Unknown.solvable
    (ap not (sym c.picks.ensures) ∙ yes))

pub returns-in-Excluded : goal.returns-in-Excluded
returns-in-Excluded g c =
    let p = provided g c.args.selection.now.provider.now in
    let picked = c.args.solvables.now in
    let has = is_kept g.D.SolvableId.PartialEq.eq (g.D.SolvableId.Set.IdSet.has c.args.selection.now.picked)
    c.args.selection.now.left_out in
    λ yes. subst (IsMet p picked) (sym c.in-Excluded.is) (unpicked p picked has c.requires c.in-Excluded.solvable
    (ap not (sym c.picks-in-Excluded.ensures) ∙ yes))

pub returns-in-Locked : goal.returns-in-Locked
returns-in-Locked g c =
    let p = provided g c.args.selection.now.provider.now in
    λ yes. subst (IsMet p c.args.solvables.now) (sym c.in-Locked.is) (c.is_only_one.ensures yes)

pub returns-in-OneVersion : goal.returns-in-OneVersion
returns-in-OneVersion g c =
    let p = provided g c.args.selection.now.provider.now in
    λ yes. subst (IsMet p c.args.solvables.now) (sym c.in-OneVersion.is) (c.is_one_version.ensures yes)
