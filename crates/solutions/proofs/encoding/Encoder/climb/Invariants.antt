use Rattle.std.proofs.Common.{◌≡◌, take}
use Rattle.solutions.proofs.Words.{AreStillSatisfied, First, gathered, IsOneVersion, list_any, Provider}
use Rattle.solutions.proofs.encoding.Encoder.climb.Given as goal

-- the provider's functions
abbrev pub provided : (g : goal.Over) → g.row.D.Denot → Provider g.row.D-NameId.Denot g.row.D-SolvableId.Denot
provided g = gathered g.D.NameId.PartialEq.eq g.D.SolvableId.PartialEq.eq g.D.NameId.Slots.IdMap.is_too_large
    g.D.SolvableId.Slots.IdMap.is_too_large g.D.SolvableId.Set.IdSet.is_too_large g.D.NameId.SolverId.are_many
    g.D.Interner.universe g.D.DependencyProvider.answers

abbrev pub invariant-loop-place : goal.invariant-loop-place
invariant-loop-place g l =
    let D = g.D in
    let p = provided g l.self.provider.now in
    record {
      before : l.before.fact ≡ First l.name l.place;
      seen : (s : g.row.D-SolvableId.Denot) → D.SolvableId.Set.IdSet.has l.seen s
          ≡ list_any (D.SolvableId.PartialEq.eq s) (take l.place l.versions);
      still : AreStillSatisfied p (λ picked. IsOneVersion p picked l.name) l.fn.theory.clauses.items
          l.theory.clauses.items;
    }
