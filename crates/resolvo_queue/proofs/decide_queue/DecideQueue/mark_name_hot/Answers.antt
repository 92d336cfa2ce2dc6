use Rattle.std.proofs.lemmas.Grind.{common_steps}
use Rattle.std.proofs.Common.{sym, subst, arith}
use Rattle.resolvo_queue.proofs.Words.{ColdLack, Queue, queue_of, StandsOn}
use Rattle.resolvo_queue.proofs.Clauses.Heated.{cold_still, fits_if_ok, kept_hot, stands_hot}
use Rattle.resolvo_queue.proofs.decide_queue.DecideQueue.mark_name_hot.Goals as goal

pub returns-in_err-insert-clause-stands : goal.returns-in_err-insert-clause-stands
returns-in_err-insert-clause-stands g c =
    let inside = c.self.inside in
    let before : Queue g.row.D-NameId.Denot g.row.D-NameId-Set.Denot =
    queue_of inside.tracked inside.names.items inside.hot_names inside.woken in
    λ refs s. stands_hot refs before c.insert.new.self
    (subst (StandsOn refs) (sym c.self.view_is) (c.heat.ensures.stands refs s))

pub invariant_of-self-2 : goal.invariant_of-self-2
invariant_of-self-2 g c =
    let inside = c.self.inside in
    let has = g.D.NameId.Set.IdSet.has in
    let before : Queue g.row.D-NameId.Denot g.row.D-NameId-Set.Denot =
    queue_of inside.tracked inside.names.items inside.hot_names inside.woken in (
      kept_hot has before c.insert.new.self c.self.invariant.0
          (cold_still (has inside.hot_names) (has c.insert.new.self) c.args.name before.names before.inside.clauses
          c.in_ok-insert.ensures.ok c.self.invariant.0.cold
          (subst (λ (q : Queue g.row.D-NameId.Denot g.row.D-NameId-Set.Denot).
          ColdLack c.args.name q.names q.inside.clauses) (sym c.self.view_is) (c.in_ok-heat.ensures.lacks
          (fits_if_ok (g.D.NameId.Set.IdSet.is_too_large c.args.name) c.insert.result _ c.in_ok-insert.was
          c.insert.ensures.too_large)))),
      c.self.invariant.1,
    )

pub returns-clause-stands : goal.returns-clause-stands
returns-clause-stands g c =
    let inside = c.self.inside in
    let before : Queue g.row.D-NameId.Denot g.row.D-NameId-Set.Denot =
    queue_of inside.tracked inside.names.items inside.hot_names inside.woken in
    λ refs s. stands_hot refs before c.insert.new.self
    (subst (StandsOn refs) (sym c.self.view_is) (c.heat.ensures.stands refs s))

pub returns-in_err-insert-clause-err : goal.returns-in_err-insert-clause-err
returns-in_err-insert-clause-err g c = grind (arith, common_steps)

pub returns-clause-ok : goal.returns-clause-ok
returns-clause-ok g c = grind (arith, common_steps)
