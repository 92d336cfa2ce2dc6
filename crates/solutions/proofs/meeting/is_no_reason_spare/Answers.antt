use Rattle.std.proofs.Common.{◌≡◌, ◌∙◌, ℕ, List, true, below_more, subst, arith, rules}
use Rattle.solutions.proofs.Words.{All, gathered, IsMet, others}
use Rattle.solutions.proofs.meeting.is_no_reason_spare.Goals as goal

pub loop-place-preserved : goal.loop-place-preserved
loop-place-preserved g c =
    let p = gathered g.D.NameId.PartialEq.eq g.D.SolvableId.PartialEq.eq g.D.NameId.Slots.IdMap.is_too_large
    g.D.SolvableId.Slots.IdMap.is_too_large g.D.SolvableId.Set.IdSet.is_too_large g.D.NameId.SolverId.are_many
    g.D.Interner.universe g.D.DependencyProvider.answers c.args.provider.now in
    let reasons = c.args.reasons.now in
    let yes : c.in_ok-are_met.field-0 ≡ true = search rules in
    let Meets = λ (place : ℕ). (picked : List g.row.D-SolvableId.Denot) × All (IsMet p picked) (others place reasons) in
    below_more Meets c.loop-place.place c.loop-place.invariant (
      c.deref-in-loop-place.result.now,
      subst (All (IsMet p c.deref-in-loop-place.result.now)) (c.deref.ensures.value ∙ c.in_ok-rest.ensures)
          (c.in_ok-are_met.ensures yes),
    )

pub returns : goal.returns
returns g c = λ yes place below. c.loop-place.invariant place (omega arith)
