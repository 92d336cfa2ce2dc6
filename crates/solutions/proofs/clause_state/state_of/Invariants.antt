use Rattle.std.proofs.Common.{take}
use Rattle.solutions.proofs.Words.{IsStateOf}
use Rattle.solutions.proofs.clause_state.state_of.Given as goal

abbrev pub invariant-loop-literal : goal.invariant-loop-literal
invariant-loop-literal g l = IsStateOf l.trail.literals.items (take l.literal-index l.clause) l.state
