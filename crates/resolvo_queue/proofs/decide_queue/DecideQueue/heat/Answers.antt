use Rattle.std.proofs.Common.{sym, ap, refl, subst, ◌∙◌}
use Rattle.std.proofs.lemmas.Result.{on_ok_weaker}
use Rattle.resolvo_queue.proofs.Words.{Queue, queue_of, StandsOn, StandsUnder}
use Rattle.resolvo_queue.proofs.Clauses.Heated.{kept_heated, stands_heated}
use Rattle.resolvo_queue.proofs.Clauses.ByName.{entered_lacks}
use Rattle.resolvo_queue.proofs.decide_queue.DecideQueue.heat.Goals as goal

pub invariant_of-self : goal.invariant_of-self
invariant_of-self g c =
    let inside = c.self.inside in
    let before : Queue g.row.D-NameId.Denot g.row.D-NameId-Set.Denot =
    queue_of inside.tracked inside.names.items inside.hot_names inside.woken in
    let after : Queue g.row.D-NameId.Denot g.row.D-NameId-Set.Denot =
    queue_of c.heat_clauses.new.self inside.names.items inside.hot_names inside.woken in (
      kept_heated g.D.NameId.Set.IdSet.has before after c.heat_clauses.ensures.heats refl c.self.invariant.0 refl refl,
      c.self.invariant.1,
    )

pub returns-clause-stands : goal.returns-clause-stands
returns-clause-stands g c =
    let inside = c.self.inside in
    let before : Queue g.row.D-NameId.Denot g.row.D-NameId-Set.Denot =
    queue_of inside.tracked inside.names.items inside.hot_names inside.woken in
    let after : Queue g.row.D-NameId.Denot g.row.D-NameId-Set.Denot =
    queue_of c.heat_clauses.new.self inside.names.items inside.hot_names inside.woken in
    λ refs s. stands_heated g.D.NameId.Set.IdSet.has before after c.heat_clauses.ensures.heats refl refs
    (subst (StandsOn refs) (sym c.self.view_is) s)
    c.heat_clauses.ensures.heats.clauses (ap (λ t. t.items) c.heat_clauses.ensures.same.1) c.heat_clauses.ensures.same.2

-- the clauses that have the name are found by it
pub returns-clause-lacks : goal.returns-clause-lacks
returns-clause-lacks g c =
    let inside = c.self.inside in
    let after : Queue g.row.D-NameId.Denot g.row.D-NameId-Set.Denot =
    queue_of c.heat_clauses.new.self inside.names.items inside.hot_names inside.woken in
    on_ok_weaker c.heat_clauses.result (λ hot fits. entered_lacks g.D.NameId.Slots.IdMap.is_too_large
    (StandsUnder g.D.NameId.Slots.IdMap.value_at inside.by_name) after.names after.inside.clauses c.args.name
    c.self.invariant.1 (sym (g.met.D.NameId.SolverId.hold_alike c.args.name).1 ∙ fits) hot)
    c.heat_clauses.ensures.hot

pub returns-clause-fits : goal.returns-clause-fits
returns-clause-fits g c =
    λ large. c.heat_clauses.ensures.too_large (sym (g.met.D.NameId.SolverId.hold_alike c.args.name).1 ∙ large)

pub returns-clause-records : goal.returns-clause-records
returns-clause-records g c = c.heat_clauses.ensures.heats.requirements ∙
    ap (λ (q : Queue g.row.D-NameId.Denot g.row.D-NameId-Set.Denot). q.inside.requirements) c.self.view_is
