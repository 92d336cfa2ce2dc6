use Rattle.std.specs.Prelude.{◌≡◌, take}
use Rattle.watch_map.proofs.Words.{none_false_at}
use Rattle.watch_map.proofs.marks.Marks.forget_false.Given as goal

abbrev pub invariant-loop-literal : goal.invariant-loop-literal
invariant-loop-literal g l = l.self ≡ none_false_at l.trail.entries l.fn.self (take l.literal-index l.literals)
