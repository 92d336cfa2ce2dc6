use Rattle.std.proofs.Common.{◌≡◌}
use Rattle.corrections.proofs.Words.{AreConflicts, gathered, IsCover, Provider}
use Rattle.corrections.proofs.correcting.smallest_correction.Given as goal

-- the provider's functions
abbrev pub provided : (g : goal.Over) → g.row.D.Denot → Provider g.row.D-NameId.Denot g.row.D-SolvableId.Denot
provided g = gathered g.D.NameId.PartialEq.eq g.D.SolvableId.PartialEq.eq g.D.NameId.Slots.IdMap.is_too_large
    g.D.SolvableId.Slots.IdMap.is_too_large g.D.SolvableId.Set.IdSet.is_too_large g.D.NameId.SolverId.are_many
    g.D.Interner.universe g.D.DependencyProvider.answers

abbrev pub invariant-sizes : goal.invariant-sizes
invariant-sizes g l =
    let p = provided g l.provider in
    IsCover p l.requested l.level.items × AreConflicts p l.requested l.conflicts.items ×
    (l.task.requested.now ≡ l.requested)
