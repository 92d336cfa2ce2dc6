use Rattle.std.proofs.Common.{◌≡◌, List, map, take}
use Rattle.solutions.proofs.Words.{gathered, is_so, is_true, Provider, truth}
use Rattle.solutions.proofs.best.literals.Given as goal

-- the provider's functions
abbrev pub provided : (g : goal.Over) → g.row.D.Denot → Provider g.row.D-NameId.Denot g.row.D-SolvableId.Denot
provided g = gathered g.D.NameId.PartialEq.eq g.D.SolvableId.PartialEq.eq g.D.NameId.Slots.IdMap.is_too_large
    g.D.SolvableId.Slots.IdMap.is_too_large g.D.SolvableId.Set.IdSet.is_too_large g.D.NameId.SolverId.are_many
    g.D.Interner.universe g.D.DependencyProvider.answers

abbrev pub invariant-loop-alternative : goal.invariant-loop-alternative
invariant-loop-alternative g l =
    let p = provided g l.encoder.provider.now in
    (other : List g.row.D-SolvableId.Denot) →
    map (is_true (truth p other)) l.literals.items ≡ map (is_so p other) (take l.alternative-index l.alternatives)
