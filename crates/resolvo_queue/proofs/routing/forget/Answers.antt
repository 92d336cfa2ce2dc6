use Rattle.std.proofs.Common.{Some, sym, ap, ◌∙◌, subst}
use Rattle.resolvo_queue.proofs.Words.{AreWoken, values_in, ways}
use Rattle.resolvo_queue.proofs.Syncs.Forgetting.{place_within, forgets_only, forgotten_unknown}
use Rattle.resolvo_queue.proofs.Syncs.Forgetting.{still_unknown, not_there, had_frontier, had_none, among_one}
use Rattle.resolvo_queue.proofs.routing.forget.Goals as goal

pub returns-in-None-clause-unknown : goal.returns-in-None-clause-unknown
returns-in-None-clause-unknown g c = not_there c.args.requirements.now c.args.requirement c.in-None.ensures.place

pub known-requires : goal.known-requires
known-requires g c = place_within c.args.requirements.now c.args.requirement c.in-Some.place c.in-Some.ensures.place

pub forget-requires : goal.forget-requires
forget-requires g c = place_within c.args.requirements.now c.args.requirement c.in-Some.place c.in-Some.ensures.place

pub clauses-requires : goal.clauses-requires
clauses-requires g c = place_within c.args.requirements.now c.args.requirement c.in-Some.place c.in-Some.ensures.place

pub forget-requires-in-Known-None : goal.forget-requires-in-Known-None
forget-requires-in-Known-None g c =
    place_within c.args.requirements.now c.args.requirement c.in-Some.place c.in-Some.ensures.place

pub returns-in-Unknown-clause-unknown : goal.returns-in-Unknown-clause-unknown
returns-in-Unknown-clause-unknown g c =
    still_unknown c.args.requirements.now c.args.requirement c.in-Some.place c.in-Some.ensures.place
    c.in-Some.ensures.only (sym c.in-Unknown.ensures)

pub returns-in-Known-Some-clause-only : goal.returns-in-Known-Some-clause-only
returns-in-Known-Some-clause-only g c = rw c.forget.ensures (forgets_only c.args.requirements.now c.in-Some.place)

pub returns-in-Known-Some-clause-unknown : goal.returns-in-Known-Some-clause-unknown
returns-in-Known-Some-clause-unknown g c =
    rw c.forget.ensures (forgotten_unknown c.args.requirements.now c.args.requirement c.in-Some.place
    c.in-Some.ensures.place c.in-Some.ensures.only)

pub returns-in-Known-Some-clause-woken : goal.returns-in-Known-Some-clause-woken
returns-in-Known-Some-clause-woken g c =
    rw c.forget.ensures (had_frontier (ways c.args.routing.now) c.args.requirements.now c.in-Some.place
    c.args.queued.now c.in-Known-Some.field-0-0 (sym c.in-Known-Some.ensures ∙ ap Some c.in-Known-Some.field-0-is))

pub returns-in_ok-wake_clauses-in-Known-None-clause-only : goal.returns-in_ok-wake_clauses-in-Known-None-clause-only
returns-in_ok-wake_clauses-in-Known-None-clause-only g c =
    rw c.forget-in-Known-None.ensures (forgets_only c.args.requirements.now c.in-Some.place)

pub returns-in_ok-wake_clauses-in-Known-None-clause-unknown :
    goal.returns-in_ok-wake_clauses-in-Known-None-clause-unknown
returns-in_ok-wake_clauses-in-Known-None-clause-unknown g c = rw c.forget-in-Known-None.ensures
    (forgotten_unknown c.args.requirements.now c.args.requirement c.in-Some.place c.in-Some.ensures.place
    c.in-Some.ensures.only)

pub returns-in_ok-wake_clauses-in-Known-None-clause-woken : goal.returns-in_ok-wake_clauses-in-Known-None-clause-woken
returns-in_ok-wake_clauses-in-Known-None-clause-woken g c = rw c.forget-in-Known-None.ensures
    (had_none (ways c.args.routing.now) c.args.requirements.now c.in-Some.place c.wake_clauses.new.queued
    (subst (λ ns. AreWoken c.args.routing.now.clauses.now
    (values_in c.args.routing.now.map.now) ns c.wake_clauses.new.queued) c.clauses.ensures
    c.in_ok-wake_clauses-in-Known-None.ensures.woken))

pub returns-in-Known-Some-clause-others : goal.returns-in-Known-Some-clause-others
returns-in-Known-Some-clause-others g c =
    rw c.forget.ensures (among_one c.args.requirements.now c.args.requirement c.in-Some.place c.in-Some.ensures.place)

pub returns-in_ok-wake_clauses-in-Known-None-clause-others : goal.returns-in_ok-wake_clauses-in-Known-None-clause-others
returns-in_ok-wake_clauses-in-Known-None-clause-others g c = rw c.forget-in-Known-None.ensures
    (among_one c.args.requirements.now c.args.requirement c.in-Some.place c.in-Some.ensures.place)
