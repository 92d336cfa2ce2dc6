use Rattle.std.proofs.Common.{length}
use Rattle.resolvo_queue.proofs.Words.{CanDecideOn, grounds, OnlyWalks}
use Rattle.resolvo_queue.proofs.deciding.first_eligible.Given as goal

abbrev pub invariant-loop-position : goal.invariant-loop-position
invariant-loop-position g l = record {
  decidable : CanDecideOn (grounds g.I.Interner.universe g.I.NameId.Scores.IdMap.value_at l.question l.initial.reader)
      l.tracked;
  walks : OnlyWalks l.initial.tracked l.tracked l.initial.reader l.reader;
}

abbrev pub decreases-loop-position : goal.decreases-loop-position
decreases-loop-position g l = length l.tracked.queued.all
