use Rattle.std.proofs.Common.{◌≡◌, List, length, map}
use Rattle.solutions.proofs.Words.{alternatives_of, AreSameUpTo, first_trues, gathered, Provider, rank, truth}
use Rattle.solutions.proofs.best.wish_literals.Given as goal

-- the provider's functions
abbrev pub provided : (g : goal.Over) → g.row.D.Denot → Provider g.row.D-NameId.Denot g.row.D-SolvableId.Denot
provided g = gathered g.D.NameId.PartialEq.eq g.D.SolvableId.PartialEq.eq g.D.NameId.Slots.IdMap.is_too_large
    g.D.SolvableId.Slots.IdMap.is_too_large g.D.SolvableId.Set.IdSet.is_too_large g.D.NameId.SolverId.are_many
    g.D.Interner.universe g.D.DependencyProvider.answers

abbrev pub invariant-loop-place : goal.invariant-loop-place
invariant-loop-place g l =
    let p = provided g l.encoder.provider.now in
    record {
      count : length l.lists.items ≡ l.place;
      same : (other : List g.row.D-SolvableId.Denot) →
          AreSameUpTo l.place l.ranks (first_trues (truth p other) l.lists.items)
          (map (rank p other) (alternatives_of l.wishes));
    }
