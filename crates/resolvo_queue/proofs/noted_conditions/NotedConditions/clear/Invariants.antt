use Rattle.std.proofs.Common.{vec_len}
use Rattle.resolvo_queue.proofs.Words.{AreFlagged}
use Rattle.resolvo_queue.proofs.noted_conditions.NotedConditions.clear.Given as goal

abbrev pub invariant-loop-disjunction : goal.invariant-loop-disjunction
invariant-loop-disjunction g l = AreFlagged l.self-inside.disjunctions.items l.self-inside.are_noted.items

abbrev pub decreases-loop-disjunction : goal.decreases-loop-disjunction
decreases-loop-disjunction g l = vec_len l.self-inside.disjunctions
