use Rattle.std.proofs.Common.{◌≡◌, true, false, rules}
use Rattle.solutions.proofs.Words.{is_kept, Offers}
use Rattle.solutions.proofs.DecisionLemmas.{next_holds, refuted}
use Rattle.solutions.proofs.NeededLemmas.{next_passes, none_passes}
use Rattle.solutions.proofs.offers.is_offered_by.Invariants.{provided}
use Rattle.solutions.proofs.offers.is_offered_by.Goals as goal

pub loop-requirement-preserved : goal.loop-requirement-preserved
loop-requirement-preserved g c =
    let p = provided g c.args.selection.now.provider.now in
    let has = is_kept g.D.SolvableId.PartialEq.eq (g.D.SolvableId.Set.IdSet.has c.args.selection.now.picked)
    c.args.selection.now.left_out in
    let no : c.in_ok-offers.field-0 ≡ false = search rules in
    next_holds (λ r. Offers p has c.args.solvable r → ⊥) c.args.requirements.now c.loop-requirement.requirement-index
    c.requirement-item.result
    c.loop-requirement-test.true c.requirement-item.is (refuted no c.in_ok-offers.ensures) c.loop-requirement.invariant

pub returns-then-branch : goal.returns-then-branch
returns-then-branch g c =
    let p = provided g c.args.selection.now.provider.now in
    let has = is_kept g.D.SolvableId.PartialEq.eq (g.D.SolvableId.Set.IdSet.has c.args.selection.now.picked)
    c.args.selection.now.left_out in
    let yes : c.in_ok-offers.field-0 ≡ true = search rules in
    next_passes (Offers p has c.args.solvable) c.args.requirements.now c.loop-requirement.requirement-index
    c.requirement-item.result
    c.loop-requirement-test.true c.requirement-item.is (c.in_ok-offers.ensures.0 yes)

pub returns : goal.returns
returns g c =
    let p = provided g c.args.selection.now.provider.now in
    let has = is_kept g.D.SolvableId.PartialEq.eq (g.D.SolvableId.Set.IdSet.has c.args.selection.now.picked)
    c.args.selection.now.left_out in
    none_passes (Offers p has c.args.solvable) c.args.requirements.now c.loop-requirement.requirement-index
    c.loop-requirement-test.false
    c.loop-requirement.invariant
