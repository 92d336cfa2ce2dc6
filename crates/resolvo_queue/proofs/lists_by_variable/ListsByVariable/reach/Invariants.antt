use Rattle.std.proofs.Common.{◌+◌, ◌-◌, map, vec_len}
use Rattle.resolvo_queue.proofs.Words.{items_in, list_at, SameValues}
use Rattle.resolvo_queue.proofs.lists_by_variable.ListsByVariable.reach.Given as goal

abbrev pub invariant-loop-alloc : goal.invariant-loop-alloc
invariant-loop-alloc g l = SameValues (list_at l.fn.self) (list_at (map items_in l.self-inside.lists.items))

abbrev pub decreases-loop-alloc : goal.decreases-loop-alloc
decreases-loop-alloc g l = l.index + 1 - vec_len l.self-inside.lists
