use Rattle.std.proofs.Common.{[], ◌∷◌, take, take_all, subst}
use Rattle.resolvo_queue.proofs.Words.{NotesConditions, Routes, Unrouted, variables_of, ways}
use Rattle.resolvo_queue.proofs.Syncs.Forgetting.{routes_none, step_notes, step_routes, unrouted_more, unrouted_along}
use Rattle.resolvo_queue.proofs.Syncs.Forgetting.{variable_read, variables_taken}
use Rattle.resolvo_queue.proofs.routing.route_all.Goals as goal

pub loop-decision-init : goal.loop-decision-init
loop-decision-init g c = record {
  routes = routes_none (ways c.args.routing.now) c.args.requirements.now c.args.queued.now;
  kept = λ d h. h;
  noted = λ v s. elim s [ ];
}

pub loop-decision-preserved : goal.loop-decision-preserved
loop-decision-preserved g c = record {
  routes = step_routes (ways c.args.routing.now) c.args.decisions.now c.loop-decision.decision-index
      c.decision-item.result c.loop-decision-test.true c.decision-item.is
      c.args.requirements.now c.loop-decision.requirements c.route.new.requirements c.args.queued.now
      c.loop-decision.queued c.route.new.queued c.loop-decision.invariant.routes c.in_ok-route.ensures.ok;
  kept = λ d h. c.route.ensures.kept d (c.loop-decision.invariant.kept d h);
  noted = step_notes (ways c.args.routing.now) c.args.decisions.now c.loop-decision.decision-index
      c.decision-item.result c.loop-decision-test.true c.decision-item.is c.loop-decision.noted c.route.new.noted
      c.loop-decision.invariant.noted c.route.ensures.kept c.in_ok-route.ensures.noted;
}

pub returns-in_err-route-clause-others : goal.returns-in_err-route-clause-others
returns-in_err-route-clause-others g c =
    let w = ways c.args.routing.now in
    unrouted_more w.requirements (variables_of c.args.decisions.now) (c.decision-item.result.variable ∷ [])
    (variable_read c.args.decisions.now c.loop-decision.decision-index c.decision-item.result c.loop-decision-test.true
    c.decision-item.is) c.args.requirements.now c.loop-decision.requirements c.route.new.requirements
    (unrouted_along w.requirements (variables_of (take c.loop-decision.decision-index c.args.decisions.now))
    (variables_of c.args.decisions.now)
    (variables_taken c.args.decisions.now c.loop-decision.decision-index) c.args.requirements.now
    c.loop-decision.requirements c.loop-decision.invariant.routes.others) c.route.ensures.others

pub returns-in_err-route-clause-kept : goal.returns-in_err-route-clause-kept
returns-in_err-route-clause-kept g c = λ d h. c.route.ensures.kept d (c.loop-decision.invariant.kept d h)

-- all of them

pub returns-clause-others : goal.returns-clause-others
returns-clause-others g c =
    let w = ways c.args.routing.now in
    subst (λ ds. Unrouted w.requirements (variables_of ds) c.args.requirements.now c.loop-decision.requirements)
    (take_all c.loop-decision.decision-index c.args.decisions.now c.loop-decision-test.false)
    c.loop-decision.invariant.routes.others

pub returns-clause-ok : goal.returns-clause-ok
returns-clause-ok g c =
    let w = ways c.args.routing.now in
    subst (λ ds. Routes w (variables_of ds) c.args.requirements.now c.loop-decision.requirements
    c.args.queued.now c.loop-decision.queued)
    (take_all c.loop-decision.decision-index c.args.decisions.now c.loop-decision-test.false)
    c.loop-decision.invariant.routes

pub returns-clause-noted : goal.returns-clause-noted
returns-clause-noted g c =
    let w = ways c.args.routing.now in
    subst (λ ds. NotesConditions w (variables_of ds) c.loop-decision.noted)
    (take_all c.loop-decision.decision-index c.args.decisions.now c.loop-decision-test.false)
    c.loop-decision.invariant.noted
