use Rattle.std.specs.Prelude.{◌≤◌, ℕ, take}
use Rattle.watch_map.proofs.Words.{level_of}
use Rattle.watch_map.proofs.saturation.marking.highest_level.Given as goal

abbrev pub invariant-loop-index : goal.invariant-loop-index
invariant-loop-index g l = record {
  highest : (x : ℕ) → level_of (take l.index l.trail.entries) x ≤ l.level;
  behind : l.from.level ≤ l.level;
}
