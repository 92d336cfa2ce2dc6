use Rattle.std.specs.Prelude.{length}
use Rattle.watch_map.proofs.Words.{watched_by, watchers}
use Rattle.watch_map.specs.Visits.{literals_at}
use Rattle.watch_map.proofs.WalkLaws.{ahead_of, IsBehind, IsWalked}
use Rattle.watch_map.proofs.saturation.walk.walk.Given as goal

abbrev pub invariant-loop-next : goal.invariant-loop-next
invariant-loop-next g l = record {
  reached : IsBehind l.fn.literal l.previous l.next l.map l.watches;
  walked : IsWalked (literals_at l.input) l.input.level l.fn.literal l.fn.trail
      (watched_by l.fn.watches) l.map l.watches l.trail
      (ahead_of l.previous (watchers l.map l.watches l.fn.literal));
}

abbrev pub decreases-loop-next : goal.decreases-loop-next
decreases-loop-next g l = length (ahead_of l.previous (watchers l.map l.watches l.fn.literal))
