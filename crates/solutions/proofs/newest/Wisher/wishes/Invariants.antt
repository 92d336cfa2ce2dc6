use Rattle.std.proofs.Common.{◌≡◌, map, take}
use Rattle.solutions.proofs.Words.{alternatives_of, gathered, Provider, wish_for}
use Rattle.solutions.proofs.newest.Wisher.wishes.Given as goal

-- the provider's functions
abbrev pub provided : (g : goal.Over) → g.row.D.Denot → Provider g.row.D-NameId.Denot g.row.D-SolvableId.Denot
provided g = gathered g.D.NameId.PartialEq.eq g.D.SolvableId.PartialEq.eq g.D.NameId.Slots.IdMap.is_too_large
    g.D.SolvableId.Slots.IdMap.is_too_large g.D.SolvableId.Set.IdSet.is_too_large g.D.NameId.SolverId.are_many
    g.D.Interner.universe g.D.DependencyProvider.answers

abbrev pub invariant-loop-requirement : goal.invariant-loop-requirement
invariant-loop-requirement g l =
    let p = provided g l.self.provider.now in
    alternatives_of l.wishes.items ≡ map (wish_for p l.self.needed.items) (take l.requirement-index l.requirements)
