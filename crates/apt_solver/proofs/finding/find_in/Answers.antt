use Rattle.std.proofs.Common.{◌∙◌}
use Rattle.apt_solver.proofs.finding.find_in.Goals as goal

pub find_others-requires-clause-whole : goal.find_others-requires-clause-whole
find_others-requires-clause-whole c = c.in_ok-answer.ensures.whole c.requires.whole

pub find_others-requires-clause-rules : goal.find_others-requires-clause-rules
find_others-requires-clause-rules c = c.in_ok-answer.ensures.rules ∙ c.requires.rules
