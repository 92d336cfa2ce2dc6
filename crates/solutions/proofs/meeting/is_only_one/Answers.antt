use Rattle.std.proofs.Common.{◌≡◌, true, subst, rules}
use Rattle.std.proofs.lemmas.List.{take_all}
use Rattle.solutions.proofs.Words.{All}
use Rattle.solutions.proofs.DecisionLemmas.{next_holds}
use Rattle.solutions.proofs.MeetingLemmas.{only_one}
use Rattle.solutions.proofs.meeting.is_only_one.Invariants.{provided}
use Rattle.solutions.proofs.meeting.is_only_one.Goals as goal

pub loop-other-preserved : goal.loop-other-preserved
loop-other-preserved g c =
    let p = provided g c.args.provider.now in
    let solvable = c.args.solvable in
    let yes : c.is_no_other.result ≡ true = search rules in
    next_holds (λ s. p.universe.solvable_name s ≡ p.universe.solvable_name solvable →
    s ≡ solvable) c.args.solvables.now c.loop-other.other-index
    c.other-item.result c.loop-other-test.true c.other-item.is (c.is_no_other.ensures yes) c.loop-other.invariant

pub returns : goal.returns
returns g c = λ yes.
    let p = provided g c.args.provider.now in
    let solvable = c.args.solvable in
    only_one p g.met.D.SolvableId.SameValue.same c.args.solvables.now solvable
    (subst (All (λ s. p.universe.solvable_name s ≡ p.universe.solvable_name solvable → s ≡ solvable))
    (take_all c.loop-other.other-index c.args.solvables.now c.loop-other-test.false) c.loop-other.invariant)
