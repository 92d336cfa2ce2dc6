use Rattle.std.proofs.Common.{◌≡◌, ◌∙◌, ap, subst, sym, true≢false}
use Rattle.std.proofs.lemmas.List.{take_all}
use Rattle.solutions.proofs.Words.{All}
use Rattle.solutions.proofs.DecisionLemmas.{next_holds}
use Rattle.solutions.proofs.MeetingLemmas.{no_version}
use Rattle.solutions.proofs.meeting.is_one_version.Invariants.{provided}
use Rattle.solutions.proofs.meeting.is_one_version.Goals as goal

pub loop-solvable-preserved : goal.loop-solvable-preserved
loop-solvable-preserved g c =
    let p = provided g c.args.provider.now in
    let name = c.args.name in
    let same = g.D.NameId.PartialEq.eq in
    next_holds (λ s. p.universe.solvable_name s ≡ name → ⊥) c.args.solvables.now c.loop-solvable.solvable-index
    c.solvable-item.result
    c.loop-solvable-test.true c.solvable-item.is
    (λ named. true≢false (sym (g.met.D.NameId.Eq.laws.refl name)
    ∙ ap (λ n. same n name) (sym (c.solvable_name.ensures ∙ named))
    ∙ sym c.eq.ensures ∙ c.if-eq.false))
    c.loop-solvable.invariant

pub returns : goal.returns
returns g c = λ yes.
    let p = provided g c.args.provider.now in
    no_version p g.met.D.SolvableId.SameValue.same c.args.solvables.now c.args.name
    (subst (All (λ s. p.universe.solvable_name s ≡ c.args.name → ⊥))
    (take_all c.loop-solvable.solvable-index c.args.solvables.now c.loop-solvable-test.false)
    c.loop-solvable.invariant)
