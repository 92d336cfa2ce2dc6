use Rattle.std.proofs.Common.{◌≡◌, true, rules}
use Rattle.solutions.proofs.Words.{is_kept, IsSatisfied}
use Rattle.solutions.proofs.DecisionLemmas.{none_fails, next_holds}
use Rattle.solutions.proofs.solution.are_satisfied.Invariants.{provided}
use Rattle.solutions.proofs.solution.are_satisfied.Goals as goal

pub loop-requirement-preserved : goal.loop-requirement-preserved
loop-requirement-preserved g c =
    let p = provided g c.args.selection.now.provider.now in
    let has = is_kept g.D.SolvableId.PartialEq.eq (g.D.SolvableId.Set.IdSet.has c.args.selection.now.picked)
    c.args.selection.now.left_out in
    let yes : c.in_ok-satisfies.field-0 ≡ true = search rules in
    next_holds (IsSatisfied p has) c.args.requirements.now c.loop-requirement.requirement-index
    c.requirement-item.result c.loop-requirement-test.true c.requirement-item.is
    (c.in_ok-satisfies.ensures.ok.0 yes) c.loop-requirement.invariant

pub returns : goal.returns
returns g c =
    let p = provided g c.args.selection.now.provider.now in
    let has = is_kept g.D.SolvableId.PartialEq.eq (g.D.SolvableId.Set.IdSet.has c.args.selection.now.picked)
    c.args.selection.now.left_out in
    none_fails (IsSatisfied p has) c.args.requirements.now c.loop-requirement.requirement-index
    c.loop-requirement-test.false c.loop-requirement.invariant
