use Rattle.std.proofs.Common.{◌≡◌, true, subst, rules}
use Rattle.std.proofs.lemmas.List.{take_all}
use Rattle.solutions.proofs.Words.{All, IsSo}
use Rattle.solutions.proofs.DecisionLemmas.{next_holds}
use Rattle.solutions.proofs.reasons.are_so.Invariants.{provided}
use Rattle.solutions.proofs.reasons.are_so.Goals as goal

pub loop-reason-preserved : goal.loop-reason-preserved
loop-reason-preserved g c =
    let p = provided g c.args.provider.now in
    let yes : c.in_ok-is_so.field-0 ≡ true = search rules in
    next_holds (IsSo p c.args.requested.now) c.args.reasons.now c.loop-reason.reason-index c.reason-item.result
    c.loop-reason-test.true
    c.reason-item.is (c.in_ok-is_so.ensures yes) c.loop-reason.invariant

pub returns : goal.returns
returns g c = λ yes.
    let p = provided g c.args.provider.now in
    subst (All (IsSo p c.args.requested.now))
    (take_all c.loop-reason.reason-index c.args.reasons.now c.loop-reason-test.false) c.loop-reason.invariant
