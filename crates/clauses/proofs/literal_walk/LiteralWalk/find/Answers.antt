use Rattle.clauses.specs.Walks.{literals_in}
use Rattle.clauses.proofs.WalkLemmas.{find-first}
use Rattle.clauses.proofs.literal_walk.LiteralWalk.find.Goals as goal

pub returns-clause-tested : goal.returns-clause-tested
returns-clause-tested g c = λ passes says.
    find-first (goal.F-post g c.args.test) (literals_in c.args.self.now) c.find_in_order.result
    c.find_in_order.ensures passes says
