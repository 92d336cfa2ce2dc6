use Rattle.std.specs.Prelude.{length}
use Rattle.watch_map.proofs.Words.{val, watched_by}
use Rattle.watch_map.specs.Visits.{literals_at}
use Rattle.watch_map.proofs.OpenClauses.{count_open}
use Rattle.watch_map.proofs.RoundLaws.{IsPropagated}
use Rattle.watch_map.proofs.saturation.saturate_from.Given as goal

abbrev pub invariant-rounds : goal.invariant-rounds
invariant-rounds g l = IsPropagated (literals_at l.input) l.input.level l.fn.trail
    (watched_by l.fn.watches) l.map l.watches l.trail l.place

-- a round that goes on added an entry, which made a clause more true
abbrev pub decreases-rounds : goal.decreases-rounds
decreases-rounds g l = count_open (literals_at l.input) (length l.input.clauses.now) (val l.trail.entries)
