use Rattle.std.proofs.Common.{◌≡◌, true, rules}
use Rattle.solutions.proofs.Words.{is_kept, IsFit}
use Rattle.solutions.proofs.DecisionLemmas.{none_fails, next_holds}
use Rattle.solutions.proofs.solution.are_all_fit.Invariants.{provided}
use Rattle.solutions.proofs.solution.are_all_fit.Goals as goal

pub loop-solvable-preserved : goal.loop-solvable-preserved
loop-solvable-preserved g c =
    let p = provided g c.args.selection.now.provider.now in
    let has = is_kept g.D.SolvableId.PartialEq.eq (g.D.SolvableId.Set.IdSet.has c.args.selection.now.picked)
    c.args.selection.now.left_out in
    let yes : c.in_ok-is_fit.field-0 ≡ true = search rules in
    next_holds (IsFit p has) c.args.solvables.now c.loop-solvable.solvable-index c.solvable-item.result
    c.loop-solvable-test.true c.solvable-item.is
    (c.in_ok-is_fit.ensures.0 yes) c.loop-solvable.invariant

pub returns : goal.returns
returns g c =
    let p = provided g c.args.selection.now.provider.now in
    let has = is_kept g.D.SolvableId.PartialEq.eq (g.D.SolvableId.Set.IdSet.has c.args.selection.now.picked)
    c.args.selection.now.left_out in
    none_fails (IsFit p has) c.args.solvables.now c.loop-solvable.solvable-index c.loop-solvable-test.false
    c.loop-solvable.invariant
