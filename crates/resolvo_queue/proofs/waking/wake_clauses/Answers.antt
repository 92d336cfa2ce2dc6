use Rattle.std.proofs.Common.{subst, take_all}
use Rattle.resolvo_queue.proofs.Words.{AreWoken, IsOfClause, values_in}
use Rattle.resolvo_queue.proofs.Syncs.Queued.{grows_both, next_woken}
use Rattle.resolvo_queue.proofs.waking.wake_clauses.Goals as goal

pub returns-in_err-wake_number-clause-grows : goal.returns-in_err-wake_number-clause-grows
returns-in_err-wake_number-clause-grows g c =
    grows_both (IsOfClause c.args.clauses.now) c.args.queued.now c.loop-number.queued
    c.wake_number.new.queued c.loop-number.invariant.grows c.wake_number.ensures.grows

pub loop-number-preserved : goal.loop-number-preserved
loop-number-preserved g c = record {
  grows = grows_both (IsOfClause c.args.clauses.now) c.args.queued.now c.loop-number.queued
      c.wake_number.new.queued c.loop-number.invariant.grows c.wake_number.ensures.grows;
  woken = next_woken c.args.clauses.now
      (values_in c.args.map.now) c.args.numbers.now c.loop-number.number-index c.loop-number-test.true
      c.loop-number.queued c.wake_number.new.queued c.wake_number.ensures.grows c.loop-number.invariant.woken
      c.in_ok-wake_number.ensures.woken;
}

pub returns-clause-woken : goal.returns-clause-woken
returns-clause-woken g c =
    subst (λ ns. AreWoken c.args.clauses.now (values_in c.args.map.now) ns c.loop-number.queued)
    (take_all c.loop-number.number-index c.args.numbers.now c.loop-number-test.false) c.loop-number.invariant.woken
