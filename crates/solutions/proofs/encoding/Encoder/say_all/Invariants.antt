use Rattle.solutions.proofs.Words.{All, AreStillSatisfied, gathered, IsMet, Provider}
use Rattle.solutions.proofs.encoding.Encoder.say_all.Given as goal

-- the provider's functions
abbrev pub provided : (g : goal.Over) → g.row.D.Denot → Provider g.row.D-NameId.Denot g.row.D-SolvableId.Denot
provided g = gathered g.D.NameId.PartialEq.eq g.D.SolvableId.PartialEq.eq g.D.NameId.Slots.IdMap.is_too_large
    g.D.SolvableId.Slots.IdMap.is_too_large g.D.SolvableId.Set.IdSet.is_too_large g.D.NameId.SolverId.are_many
    g.D.Interner.universe g.D.DependencyProvider.answers

abbrev pub invariant-loop-reason : goal.invariant-loop-reason
invariant-loop-reason g l =
    let p = provided g l.self.provider.now in
    AreStillSatisfied p (λ picked. All (IsMet p picked) l.reasons) l.fn.theory.clauses.items l.theory.clauses.items
