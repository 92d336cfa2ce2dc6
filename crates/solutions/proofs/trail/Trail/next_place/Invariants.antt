use Rattle.std.proofs.Common.{◌≡◌}
use Rattle.solutions.proofs.trail.Trail.next_place.Given as goal

abbrev pub invariant-loop : goal.invariant-loop
invariant-loop g l = l.self.literals.items ≡ l.fn.self.literals.items
