use Rattle.std.proofs.Common.{take}
use Rattle.solutions.proofs.Words.{All, alternatives_of, gathered, IsNeeded, Provider}
use Rattle.solutions.proofs.NeededLemmas.{AreCausedBefore}
use Rattle.solutions.proofs.needed.are_needed.Given as goal

-- the provider's functions
abbrev pub provided : (g : goal.Over) → g.row.D.Denot → Provider g.row.D-NameId.Denot g.row.D-SolvableId.Denot
provided g = gathered g.D.NameId.PartialEq.eq g.D.SolvableId.PartialEq.eq g.D.NameId.Slots.IdMap.is_too_large
    g.D.SolvableId.Slots.IdMap.is_too_large g.D.SolvableId.Set.IdSet.is_too_large g.D.NameId.SolverId.are_many
    g.D.Interner.universe g.D.DependencyProvider.answers

abbrev pub invariant-loop-place : goal.invariant-loop-place
invariant-loop-place g l =
    let p = provided g l.provider in
    record {
      caused : AreCausedBefore p l.request.requirements.now (alternatives_of l.request.wishes.now) l.picked l.causes
          l.place;
      needed : All (IsNeeded p l.request.requirements.now (alternatives_of l.request.wishes.now) l.picked)
          (take l.place l.picked);
    }
