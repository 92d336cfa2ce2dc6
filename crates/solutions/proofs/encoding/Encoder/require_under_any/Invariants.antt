use Rattle.std.proofs.Common.{map}
use Rattle.solutions.proofs.Words.{AreStillSatisfied, gathered, IsSatisfiedUnless, Provider}
use Rattle.solutions.proofs.encoding.Encoder.require_under_any.Given as goal

-- the provider's functions
abbrev pub provided : (g : goal.Over) → g.row.D.Denot → Provider g.row.D-NameId.Denot g.row.D-SolvableId.Denot
provided g = gathered g.D.NameId.PartialEq.eq g.D.SolvableId.PartialEq.eq g.D.NameId.Slots.IdMap.is_too_large
    g.D.SolvableId.Slots.IdMap.is_too_large g.D.SolvableId.Set.IdSet.is_too_large g.D.NameId.SolverId.are_many
    g.D.Interner.universe g.D.DependencyProvider.answers

abbrev pub invariant-loop-list : goal.invariant-loop-list
invariant-loop-list g l =
    let p = provided g l.self.provider.now in
    AreStillSatisfied p (λ picked. IsSatisfiedUnless p l.unless picked (map (λ x. x.items) l.lists) l.requirement)
    l.fn.theory.clauses.items l.theory.clauses.items
