use Rattle.apt_solver.proofs.finding.find.Goals as goal

pub find_in-requires-clause-rules : goal.find_in-requires-clause-rules
find_in-requires-clause-rules c = c.in-Ok.ensures.rules
