use Rattle.solutions.proofs.Words.{gathered, Provider}
use Rattle.solutions.proofs.DecisionLemmas.{done}
use Rattle.solutions.proofs.ReasonLemmas.{still_as}
use Rattle.solutions.proofs.encoding.Encoder.say.Given.{Over}
use Rattle.solutions.specs.declared.reason.Reason.TheVariants as R
use Rattle.solutions.proofs.encoding.Encoder.say.Goals as goal

-- the provider's functions
abbrev provided : (g : Over) → g.row.D.Denot → Provider g.row.D-NameId.Denot g.row.D-SolvableId.Denot
provided g = gathered g.D.NameId.PartialEq.eq g.D.SolvableId.PartialEq.eq g.D.NameId.Slots.IdMap.is_too_large
    g.D.SolvableId.Slots.IdMap.is_too_large g.D.SolvableId.Set.IdSet.is_too_large g.D.NameId.SolverId.are_many
    g.D.Interner.universe g.D.DependencyProvider.answers

pub returns-in-Needs : goal.returns-in-Needs
returns-in-Needs g c =
    let p = provided g c.args.self.now.provider.now in
    done c.need.result
    (still_as p c.args.reason (R.Needs c.in-Needs.parent c.in-Needs.conditional) c.args.theory.now.clauses.items
    c.need.new.theory.clauses.items c.in-Needs.is)
    c.need.ensures

pub returns-in-Lacks : goal.returns-in-Lacks
returns-in-Lacks g c =
    let p = provided g c.args.self.now.provider.now in
    done c.need-in-Lacks.result
    (still_as p c.args.reason (R.Lacks c.in-Lacks.parent c.in-Lacks.conditional) c.args.theory.now.clauses.items
    c.need-in-Lacks.new.theory.clauses.items c.in-Lacks.is)
    c.need-in-Lacks.ensures

pub returns-in-Limits : goal.returns-in-Limits
returns-in-Limits g c =
    let p = provided g c.args.self.now.provider.now in
    done c.limit.result
    (still_as p c.args.reason (R.Limits c.in-Limits.solvable c.in-Limits.set) c.args.theory.now.clauses.items
    c.limit.new.theory.clauses.items c.in-Limits.is)
    c.limit.ensures

pub returns-in-Locked : goal.returns-in-Locked
returns-in-Locked g c =
    let p = provided g c.args.self.now.provider.now in
    done c.lock.result
    (still_as p c.args.reason (R.Locked c.in-Locked.solvable) c.args.theory.now.clauses.items
    c.lock.new.theory.clauses.items c.in-Locked.is)
    c.lock.ensures

pub returns-in-OneVersion : goal.returns-in-OneVersion
returns-in-OneVersion g c =
    let p = provided g c.args.self.now.provider.now in
    done c.take_one.result
    (still_as p c.args.reason (R.OneVersion c.in-OneVersion.name) c.args.theory.now.clauses.items
    c.take_one.new.theory.clauses.items c.in-OneVersion.is)
    c.take_one.ensures
