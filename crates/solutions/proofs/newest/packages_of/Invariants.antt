use Rattle.std.proofs.Common.{◌≡◌, take}
use Rattle.solutions.proofs.Words.{gathered, packages_of, Provider}
use Rattle.solutions.proofs.newest.packages_of.Given as goal

-- the provider's functions
abbrev pub provided : (g : goal.Over) → g.row.D.Denot → Provider g.row.D-NameId.Denot g.row.D-SolvableId.Denot
provided g = gathered g.D.NameId.PartialEq.eq g.D.SolvableId.PartialEq.eq g.D.NameId.Slots.IdMap.is_too_large
    g.D.SolvableId.Slots.IdMap.is_too_large g.D.SolvableId.Set.IdSet.is_too_large g.D.NameId.SolverId.are_many
    g.D.Interner.universe g.D.DependencyProvider.answers

abbrev pub invariant-loop-requirement : goal.invariant-loop-requirement
invariant-loop-requirement g l =
    let p = provided g l.provider in
    l.packages.items ≡ packages_of p (take l.requirement-index l.requirements)
