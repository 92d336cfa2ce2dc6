use Rattle.std.proofs.Common.{arith}
use Rattle.std.proofs.lemmas.Grind.{common_steps}
use Rattle.decisions.proofs.decision_tracker.DecisionTracker.next_unpropagated.Goals as goal

pub returns-in_err-decision-clause-within : goal.returns-in_err-decision-clause-within
returns-in_err-decision-clause-within g c = grind (arith, common_steps)

pub returns-clause-within : goal.returns-clause-within
returns-clause-within g c = grind (arith, common_steps)
