use Rattle.std.proofs.Common.{◌≡◌, [], get_or, true, subst, rules}
use Rattle.std.proofs.lemmas.List.{take_all}
use Rattle.solutions.proofs.Words.{All, matching, VersionSetId}
use Rattle.solutions.proofs.DecisionLemmas.{next_holds}
use Rattle.solutions.proofs.EncodingLemmas.{own_default}
use Rattle.solutions.proofs.reasons.are_empty.Invariants.{provided}
use Rattle.solutions.proofs.reasons.are_empty.Goals as goal

pub loop-set-preserved : goal.loop-set-preserved
loop-set-preserved g c =
    let p = provided g c.args.provider.now in
    let sets = c.args.sets.now in
    let i = c.loop-set.set-index in
    let yes : c.in_ok-is_empty.field-0 ≡ true = search rules in
    next_holds (λ set. matching p.universe p.answers set ≡ []) sets i
    (get_or sets i (record { 0 = 0 })) c.loop-set-test.true
    (own_default sets i (record { 0 = 0 }) c.loop-set-test.true) (c.in_ok-is_empty.ensures yes) c.loop-set.invariant

pub returns : goal.returns
returns g c = λ yes.
    let p = provided g c.args.provider.now in
    subst (All (λ set. matching p.universe p.answers set ≡ []))
    (take_all c.loop-set.set-index c.args.sets.now c.loop-set-test.false) c.loop-set.invariant
