use Rattle.std.proofs.Common.{inl, inr, sym, subst, take_all}
use Rattle.resolvo_queue.proofs.Words.{IsOfClause, Stands, values_in}
use Rattle.resolvo_queue.proofs.Syncs.Flags.{noted_stands}
use Rattle.resolvo_queue.proofs.Syncs.Noting.{settled_more}
use Rattle.resolvo_queue.proofs.Syncs.Queued.{grows_both, grows_none}
use Rattle.resolvo_queue.proofs.due.wake_noted.Goals as goal

pub loop-disjunction-init : goal.loop-disjunction-init
loop-disjunction-init g c = record {
  grows = grows_none (IsOfClause c.args.index.now.clauses.items) c.args.queued.now;
  woken = λ d s. elim s [ ];
}

pub loop-disjunction-preserved : goal.loop-disjunction-preserved
loop-disjunction-preserved g c = record {
  grows = grows_both (IsOfClause c.args.index.now.clauses.items) c.args.queued.now c.loop-disjunction.queued
      c.wake_if_met.new.queued c.loop-disjunction.invariant.grows c.wake_if_met.ensures.grows;
  woken = settled_more c.args.index.now.clauses.items c.args.question.now.disjunctions.now
      (values_in c.args.question.now.map.now) c.disjunctions-conditions.result.now c.loop-disjunction.disjunction-index
      c.loop-disjunction-test.true c.loop-disjunction.queued c.wake_if_met.new.queued c.wake_if_met.ensures.grows
      c.in_ok-wake_if_met.ensures.woken c.loop-disjunction.invariant.woken;
}

pub returns-in_err-wake_if_met-clause-grows : goal.returns-in_err-wake_if_met-clause-grows
returns-in_err-wake_if_met-clause-grows g c =
    grows_both (IsOfClause c.args.index.now.clauses.items) c.args.queued.now c.loop-disjunction.queued
    c.wake_if_met.new.queued c.loop-disjunction.invariant.grows c.wake_if_met.ensures.grows

pub returns-in_err-wake_if_met-clause-settles : goal.returns-in_err-wake_if_met-clause-settles
returns-in_err-wake_if_met-clause-settles g c = λ d h. inl h

pub returns-clause-settles : goal.returns-clause-settles
returns-clause-settles g c = λ d h. inr (c.loop-disjunction.invariant.woken d (subst (Stands d)
    (sym (take_all c.loop-disjunction.disjunction-index c.disjunctions-conditions.result.now
    c.loop-disjunction-test.false)) (subst (Stands d) (sym c.disjunctions-conditions.ensures)
    (noted_stands c.args.noted.now d h))))
