use Rattle.std.specs.Prelude.{◌≡◌, ◌≤◌, length, take}
use Rattle.decisions.specs.Tracker.{entries_of, IsTracked}
use Rattle.decisions.specs.Trail.{entries_until}
use Rattle.decisions.proofs.decision_tracker.reset_above.Given as goal

abbrev pub invariant-loop-left : goal.invariant-loop-left
invariant-loop-left g l = record {
  within : l.left ≤ length l.stack;
  tracked : IsTracked l.map (take l.left l.stack);
  kept : entries_until l.level (entries_of l.map (take l.left l.stack))
      ≡ entries_until l.level (entries_of l.fn.map l.stack);
}

abbrev pub decreases-loop-left : goal.decreases-loop-left
decreases-loop-left g l = l.left
