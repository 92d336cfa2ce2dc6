use Rattle.std.proofs.Common.{ℕ, ◌<◌, List}
use Rattle.solutions.proofs.Words.{All, gathered, IsMet, others}
use Rattle.solutions.proofs.meeting.is_no_reason_spare.Given as goal

abbrev pub invariant-loop-place : goal.invariant-loop-place
invariant-loop-place g l =
    let p = gathered g.D.NameId.PartialEq.eq g.D.SolvableId.PartialEq.eq g.D.NameId.Slots.IdMap.is_too_large
    g.D.SolvableId.Slots.IdMap.is_too_large g.D.SolvableId.Set.IdSet.is_too_large g.D.NameId.SolverId.are_many
    g.D.Interner.universe g.D.DependencyProvider.answers l.provider in
    (k : ℕ) → k < l.place → (picked : List g.row.D-SolvableId.Denot) × All (IsMet p picked) (others k l.reasons)
