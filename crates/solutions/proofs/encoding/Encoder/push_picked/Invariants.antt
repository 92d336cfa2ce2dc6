use Rattle.std.proofs.Common.{take}
use Rattle.solutions.proofs.Words.{gathered, HasTrueOr, is_among, list_any, Provider}
use Rattle.solutions.proofs.encoding.Encoder.push_picked.Given as goal

-- the provider's functions
abbrev pub provided : (g : goal.Over) → g.row.D.Denot → Provider g.row.D-NameId.Denot g.row.D-SolvableId.Denot
provided g = gathered g.D.NameId.PartialEq.eq g.D.SolvableId.PartialEq.eq g.D.NameId.Slots.IdMap.is_too_large
    g.D.SolvableId.Slots.IdMap.is_too_large g.D.SolvableId.Set.IdSet.is_too_large g.D.NameId.SolverId.are_many
    g.D.Interner.universe g.D.DependencyProvider.answers

abbrev pub invariant-loop-solvable : goal.invariant-loop-solvable
invariant-loop-solvable g l =
    let p = provided g l.self.provider.now in
    HasTrueOr p (λ picked. list_any (is_among p picked) (take l.solvable-index l.solvables)) l.fn.clause.items
    l.clause.items
