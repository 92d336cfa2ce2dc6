use Rattle.std.proofs.Common.{ap, map, refl}
use Rattle.resolvo_queue.proofs.Words.{clause_of, StandsUnder, Queue, queue_of}
use Rattle.resolvo_queue.proofs.Clauses.ByName.{entered_none}
use Rattle.resolvo_queue.proofs.Clauses.New.{kept_new, stands_new}
use Rattle.resolvo_queue.proofs.decide_queue.DecideQueue.new.Goals as goal

pub invariant_of-result : goal.invariant_of-result
invariant_of-result g c =
    let made : Queue g.row.D-NameId.Denot g.row.D-NameId-Set.Denot =
    queue_of c.new.result c.new-2.result.items c.new-4.result 0 in
    let names = c.new-2.ensures in (
      kept_new g.D.NameId.Set.IdSet.has made c.new.ensures.clauses c.new.ensures.by_parent c.new.ensures.newest_under
          c.new.ensures.queued names refl,
      entered_none g.D.NameId.Slots.IdMap.is_too_large (StandsUnder g.D.NameId.Slots.IdMap.value_at c.new-3.result)
          c.new-2.result.items names,
    )

pub returns-clause-stands : goal.returns-clause-stands
returns-clause-stands g c =
    let made : Queue g.row.D-NameId.Denot g.row.D-NameId-Set.Denot =
    queue_of c.new.result c.new-2.result.items c.new-4.result 0 in
    λ refs. stands_new refs made (ap (map clause_of) c.new.ensures.clauses) c.new.ensures.clauses
    c.new.ensures.requirements c.new.ensures.listed c.new.ensures.by_variable
