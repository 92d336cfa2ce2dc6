use Rattle.std.proofs.Common.{◌≡◌, map, take}
use Rattle.clause_counters.proofs.Words.{row_literals}
use Rattle.clause_counters.proofs.rows.positive_literals.Given as goal

abbrev pub invariant-loop-list : goal.invariant-loop-list
invariant-loop-list g l = l.literals.items ≡ row_literals (map (λ v. v.items) (take l.list-index l.lists))
