use Rattle.std.proofs.Common.{◌∙◌}
use Rattle.apt_solver.proofs.finding.find_others.Goals as goal

pub keep_most-requires-clause-whole : goal.keep_most-requires-clause-whole
keep_most-requires-clause-whole c = c.in_ok-answer.ensures.stays.whole c.requires.whole

pub keep_most-requires-clause-rules : goal.keep_most-requires-clause-rules
keep_most-requires-clause-rules c = c.in_ok-answer.ensures.stays.rules ∙ c.requires.rules
