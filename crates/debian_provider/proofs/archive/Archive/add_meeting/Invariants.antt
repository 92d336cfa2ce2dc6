use Rattle.std.proofs.Common.{ℕ, ◌<◌, get_or}
use Rattle.debian_provider.proofs.Words.{IsAdded, IsOfferedAt, plain_set}
use Rattle.debian_provider.proofs.archive.Archive.add_meeting.Given as goal

-- what meets the relation at the places so far is offered
abbrev pub invariant-loop-place : goal.invariant-loop-place
invariant-loop-place l = record {
  added : IsAdded l.fn.self l.self l.fn.sets.items l.sets.items;
  offered : (k : ℕ) → k < l.place-index → IsOfferedAt l.self.rules l.self.reached.pool (get_or l.places k 0)
      l.sets.items (plain_set l.set);
}
