use Rattle.std.proofs.Common.{◌≡◌, take}
use Rattle.solutions.proofs.Words.{All, alternatives_of, gathered, IsSpare, list_any, Provider}
use Rattle.solutions.proofs.spare.find_spare.Given as goal

-- the provider's functions
abbrev pub provided : (g : goal.Over) → g.row.D.Denot → Provider g.row.D-NameId.Denot g.row.D-SolvableId.Denot
provided g = gathered g.D.NameId.PartialEq.eq g.D.SolvableId.PartialEq.eq g.D.NameId.Slots.IdMap.is_too_large
    g.D.SolvableId.Slots.IdMap.is_too_large g.D.SolvableId.Set.IdSet.is_too_large g.D.NameId.SolverId.are_many
    g.D.Interner.universe g.D.DependencyProvider.answers

abbrev pub invariant-loop-place : goal.invariant-loop-place
invariant-loop-place g l =
    let D = g.D in
    let p = provided g l.provider in
    record {
      none : All (λ s. IsSpare p l.fn.request.requirements.now (alternatives_of l.fn.request.wishes.now) l.picked s →
          ⊥) (take l.place l.picked);
      kept : (s : g.row.D-SolvableId.Denot) → D.SolvableId.Set.IdSet.has l.selection.picked s
          ≡ list_any (D.SolvableId.PartialEq.eq s) l.picked;
      provider : l.selection.provider.now ≡ l.provider;
    }
