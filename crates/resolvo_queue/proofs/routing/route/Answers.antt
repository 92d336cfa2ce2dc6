use Rattle.std.proofs.Common.{OnOk, subst}
use Rattle.resolvo_queue.proofs.Words.{AreUnknown, AreWoken, ForgetsAmong, ways}
use Rattle.resolvo_queue.proofs.Syncs.Forgetting.{notes_one, routes_one, unrouted_one}
use Rattle.resolvo_queue.proofs.routing.route.Goals as goal

pub returns-clause-ok : goal.returns-clause-ok
returns-clause-ok g c =
    let w = ways c.args.routing.now in
    routes_one w c.forget_all.result c.args.variable c.args.requirements.now c.forget_all.new.requirements
    c.args.queued.now c.wake_clauses.new.queued c.forget_all.new.queued c.wake_clauses.ensures.grows
    (subst (λ ns. AreWoken w.clauses w.val ns c.wake_clauses.new.queued) c.at-numbers.ensures
    c.in_ok-wake_clauses.ensures.woken) c.forget_all.ensures.grows c.forget_all.ensures.only
    (subst (λ rs. ForgetsAmong rs c.args.requirements.now c.forget_all.new.requirements) c.listing-listed.ensures
    c.forget_all.ensures.others)
    (subst (λ rs. OnOk c.forget_all.result (AreUnknown rs c.forget_all.new.requirements)) c.listing-listed.ensures
    c.forget_all.ensures.unknown) c.forget_all.ensures.woken

pub returns-clause-noted : goal.returns-clause-noted
returns-clause-noted g c = notes_one (ways c.args.routing.now) c.forget_all.result c.args.variable
    c.note_conditions.new.noted c.in_ok-note_conditions.ensures.noted

pub returns-clause-others : goal.returns-clause-others
returns-clause-others g c =
    let w = ways c.args.routing.now in
    unrouted_one w.requirements c.args.variable c.args.requirements.now c.forget_all.new.requirements
    (subst (λ rs. ForgetsAmong rs c.args.requirements.now c.forget_all.new.requirements) c.listing-listed.ensures
    c.forget_all.ensures.others)
