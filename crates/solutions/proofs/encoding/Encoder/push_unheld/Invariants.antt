use Rattle.std.proofs.Common.{take, not}
use Rattle.solutions.proofs.Words.{AreStillSatisfied, gathered, HasTrueOr, is_among, list_all, Provider, ⊤}
use Rattle.solutions.specs.Solutions.{has_picked}
use Rattle.solutions.proofs.encoding.Encoder.push_unheld.Given as goal

-- the provider's functions
abbrev pub provided : (g : goal.Over) → g.row.D.Denot → Provider g.row.D-NameId.Denot g.row.D-SolvableId.Denot
provided g = gathered g.D.NameId.PartialEq.eq g.D.SolvableId.PartialEq.eq g.D.NameId.Slots.IdMap.is_too_large
    g.D.SolvableId.Slots.IdMap.is_too_large g.D.SolvableId.Set.IdSet.is_too_large g.D.NameId.SolverId.are_many
    g.D.Interner.universe g.D.DependencyProvider.answers

abbrev pub invariant-loop-set : goal.invariant-loop-set
invariant-loop-set g l =
    let p = provided g l.self.provider.now in
    record {
      clause : HasTrueOr p (λ picked. not (list_all (has_picked p (is_among p picked)) (take l.set-index l.held)))
          l.fn.clause.items l.clause.items;
      theory : AreStillSatisfied p (λ picked. ⊤) l.fn.theory.clauses.items l.theory.clauses.items;
    }
