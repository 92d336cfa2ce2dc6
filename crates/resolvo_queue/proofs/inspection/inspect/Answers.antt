use Rattle.decisions.specs.Decisions.{values_in}
use Rattle.resolvo_queue.proofs.Rows.KnownSets.{frontier_set}
use Rattle.resolvo_queue.proofs.Walks.Counts.{walks_nothing}
use Rattle.resolvo_queue.proofs.inspection.inspect.Goals as goal

pub returns-in_default-clause-once : goal.returns-in_default-clause-once
returns-in_default-clause-once g c = walks_nothing c.args.requirements.now c.args.reader.now.walked

pub returns-then-not-condition_holds-clause-once : goal.returns-then-not-condition_holds-clause-once
returns-then-not-condition_holds-clause-once g c = walks_nothing c.args.requirements.now c.args.reader.now.walked

pub returns-clause-set : goal.returns-clause-set
returns-clause-set g c = frontier_set (g.I.Interner.universe c.args.question.now.interner.now) c.args.reader.now.lists
    (values_in c.args.question.now.map.now) c.args.clause.now.requirement
    (g.met.I.Interner.union_sets_known c.args.question.now.interner.now) c.requires.walkable.known
    c.requirement_frontier.result c.requirement_frontier.ensures.frontier
