use Rattle.resolvo_queue.proofs.Words.{IsOfClause, values_in}
use Rattle.resolvo_queue.proofs.Syncs.Queued.{grows_none, none_past, none_woken, number_grows, number_woken, read_in}
use Rattle.resolvo_queue.proofs.waking.wake_number.Goals as goal

pub returns-in-Some-clause-grows : goal.returns-in-Some-clause-grows
returns-in-Some-clause-grows g c =
    let clauses = c.args.clauses.now in
    number_grows clauses c.requires c.args.number c.in-Some.clause.now
    (read_in clauses c.args.number c.in-Some.clause.now c.in-Some.ensures.lookup.0 c.in-Some.ensures.lookup.1)
    c.args.queued.now c.wake.new.queued c.wake.ensures.grows

pub returns-in-Some-clause-woken : goal.returns-in-Some-clause-woken
returns-in-Some-clause-woken g c =
    let clauses = c.args.clauses.now in
    number_woken clauses (values_in c.args.map.now) c.args.number c.in-Some.clause.now c.wake.new.queued c.wake.result
    (read_in clauses c.args.number c.in-Some.clause.now c.in-Some.ensures.lookup.0 c.in-Some.ensures.lookup.1)
    c.wake.ensures.woken

pub returns-in-None-clause-grows : goal.returns-in-None-clause-grows
returns-in-None-clause-grows g c = grows_none (IsOfClause c.args.clauses.now) c.args.queued.now

pub returns-in-None-clause-woken : goal.returns-in-None-clause-woken
returns-in-None-clause-woken g c =
    none_woken c.args.clauses.now (values_in c.args.map.now) c.args.number c.args.queued.now
    (none_past c.args.clauses.now c.args.number c.in-None.ensures.lookup.0)
