use Rattle.std.proofs.Common.{◌≡◌, ◌++◌}
use Rattle.id_storage.specs.Arena.{pairs_from}
use Rattle.test_part_calls.proofs.arena_callers.pairs.Given as goal

-- what was taken, and then what is left, are all pairs
abbrev pub invariant-loop-id : goal.invariant-loop-id
invariant-loop-id g l = l.list.items ++ l.id-iterator ≡ pairs_from g.TId.DenseIndex.id_at 0 l.arena
