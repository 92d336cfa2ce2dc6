use Rattle.std.specs.Prelude.{◌≡◌, length, take}
use Rattle.watch_map.proofs.Words.{AreAllSettled, HasImplied, val}
use Rattle.watch_map.specs.Visits.{literals_at}
use Rattle.watch_map.proofs.saturation.unwatched.visit_all_unwatched.Given as goal

abbrev pub invariant-loop-index : goal.invariant-loop-index
invariant-loop-index g l = record {
  implied : HasImplied (literals_at l.input) l.input.level l.fn.trail l.trail;
  settled : length l.trail.entries ≡ length l.fn.trail.entries
      → AreAllSettled (literals_at l.input) (take l.index l.input.unwatched.now) (val l.trail.entries);
}
