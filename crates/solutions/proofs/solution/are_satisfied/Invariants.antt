use Rattle.std.proofs.Common.{take}
use Rattle.solutions.proofs.Words.{All, gathered, is_kept, IsSatisfied, Provider}
use Rattle.solutions.proofs.solution.are_satisfied.Given as goal

-- the provider's functions
abbrev pub provided : (g : goal.Over) → g.row.D.Denot → Provider g.row.D-NameId.Denot g.row.D-SolvableId.Denot
provided g = gathered g.D.NameId.PartialEq.eq g.D.SolvableId.PartialEq.eq g.D.NameId.Slots.IdMap.is_too_large
    g.D.SolvableId.Slots.IdMap.is_too_large g.D.SolvableId.Set.IdSet.is_too_large g.D.NameId.SolverId.are_many
    g.D.Interner.universe g.D.DependencyProvider.answers

abbrev pub invariant-loop-requirement : goal.invariant-loop-requirement
invariant-loop-requirement g l =
    let D = g.D in
    let p = provided g l.selection.provider.now in
    All (IsSatisfied p (is_kept D.SolvableId.PartialEq.eq (D.SolvableId.Set.IdSet.has l.selection.picked)
    l.selection.left_out)) (take l.requirement-index l.requirements)
