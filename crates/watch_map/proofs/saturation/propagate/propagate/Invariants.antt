use Rattle.std.specs.Prelude.{◌+◌, ◌-◌, length}
use Rattle.watch_map.proofs.Words.{val, watched_by}
use Rattle.watch_map.specs.Visits.{literals_at}
use Rattle.watch_map.proofs.OpenClauses.{count_open}
use Rattle.watch_map.proofs.RoundLaws.{IsPropagated}
use Rattle.watch_map.proofs.saturation.propagate.propagate.Given as goal

abbrev pub invariant-loop-place : goal.invariant-loop-place
invariant-loop-place g l = IsPropagated (literals_at l.input) l.input.level l.fn.trail
    (watched_by l.fn.watches) l.map l.watches l.trail l.place

-- each round handles one more entry, and each entry that it adds makes one clause more true
abbrev pub decreases-loop-place : goal.decreases-loop-place
decreases-loop-place g l =
    count_open (literals_at l.input) (length l.input.clauses.now) (val l.trail.entries) +
    (length l.trail.entries - l.place)
