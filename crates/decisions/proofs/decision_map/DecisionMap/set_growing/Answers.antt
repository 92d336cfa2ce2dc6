use Rattle.decisions.proofs.decision_map.DecisionMap.set_growing.Goals as goal

pub returns-clause-ok : goal.returns-clause-ok
returns-clause-ok g c = rw (← c.self.view_is) (rw c.decided-decided.ensures at c.set.ensures.ok)

pub returns-clause-err : goal.returns-clause-err
returns-clause-err g c = rw (← c.self.view_is) c.set.ensures.err
