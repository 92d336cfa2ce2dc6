use Rattle.std.specs.Prelude.{◌≡◌, length}
use Rattle.watch_map.proofs.Words.{marks_below}
use Rattle.watch_map.proofs.marks.Marks.forget.Given as goal

abbrev pub invariant-loop-limit : goal.invariant-loop-limit
invariant-loop-limit g l = marks_below l.limit l.self ≡ marks_below l.limit l.initial.self

abbrev pub decreases-loop-limit : goal.decreases-loop-limit
decreases-loop-limit g l = length l.self
