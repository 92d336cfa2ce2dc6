use Rattle.clauses.proofs.WalkLemmas.{find-first}
use Rattle.clauses.proofs.literal_walk.find_among.Goals as goal

pub returns-clause-tested : goal.returns-clause-tested
returns-clause-tested g c = λ passes says.
    find-first (goal.F-post g c.args.test) c.args.literals.now c.find_stored.result c.find_stored.ensures passes says
