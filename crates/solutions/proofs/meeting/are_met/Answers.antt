use Rattle.std.proofs.Common.{◌≡◌, true, subst, rules}
use Rattle.std.proofs.lemmas.List.{take_all}
use Rattle.solutions.proofs.Words.{All, IsMet}
use Rattle.solutions.proofs.DecisionLemmas.{next_holds}
use Rattle.solutions.proofs.meeting.are_met.Invariants.{provided}
use Rattle.solutions.proofs.meeting.are_met.Goals as goal

pub loop-reason-preserved : goal.loop-reason-preserved
loop-reason-preserved g c =
    let p = provided g c.args.provider.now in
    let picked = c.args.picked.now in
    let yes : c.in_ok-is_met.field-0 ≡ true = search rules in
    let met : IsMet p picked c.reason-item.result =
    subst (λ provider. IsMet (provided g provider) picked c.reason-item.result) c.in_ok-selection.ensures.provider
    (c.in_ok-is_met.ensures yes) in
    next_holds (IsMet p picked) c.args.reasons.now c.loop-reason.reason-index c.reason-item.result
    c.loop-reason-test.true
    c.reason-item.is met c.loop-reason.invariant

pub returns : goal.returns
returns g c = λ yes.
    let p = provided g c.args.provider.now in
    subst (All (IsMet p c.args.picked.now))
    (take_all c.loop-reason.reason-index c.args.reasons.now c.loop-reason-test.false) c.loop-reason.invariant
