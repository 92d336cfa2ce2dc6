use Rattle.std.proofs.Common.{take}
use Rattle.resolvo_queue.proofs.Words.{IsEntered, KeepsNumbers, StandsUnder, Stands}
use Rattle.resolvo_queue.proofs.clauses_by_name.ClausesByName.enter.Given as goal

abbrev pub invariant-loop-name : goal.invariant-loop-name
invariant-loop-name g l =
    let under = StandsUnder g.N.Slots.IdMap.value_at in
    record {
      kept : KeepsNumbers (under l.initial.self) (under l.self);
      entered : (name : _) → Stands name (take l.name-index l.names) →
          IsEntered g.N.Slots.IdMap.is_too_large (under l.self) l.number name;
    }
