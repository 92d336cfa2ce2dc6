use Rattle.std.proofs.Common.{◌≡◌, ◌-◌, Some, slice_get, arith}
use Rattle.resolvo_queue.proofs.Words.{values_in}
use Rattle.resolvo_queue.proofs.Syncs.Queued.{all_grow, all_woken, read_at}
use Rattle.resolvo_queue.proofs.waking.wake_from.Goals as goal

pub loop-number-preserved : goal.loop-number-preserved
loop-number-preserved g c =
    let clauses = c.args.clauses.now in
    let i = c.loop-number.number - 1 in
    let item = c.index-clauses-number.result in
    let it_is : slice_get clauses i ≡ Some item = read_at clauses i item (omega arith) c.index-clauses-number.is in
    record {
      grows = all_grow clauses c.requires.numbers (values_in c.args.map.now) i item it_is
          c.args.queued.now c.loop-number.queued c.wake.new.queued c.loop-number.invariant.grows c.wake.ensures.grows;
      woken = all_woken clauses c.requires.numbers (values_in c.args.map.now) i item it_is c.args.queued.now
          c.loop-number.queued c.wake.new.queued c.loop-number.invariant.grows c.wake.ensures.grows
          (λ n d e from t. c.loop-number.invariant.woken n d e (omega (arith, from)) t) c.in_ok-wake.ensures.woken;
    }

pub returns-in_err-wake-clause-grows : goal.returns-in_err-wake-clause-grows
returns-in_err-wake-clause-grows g c =
    let clauses = c.args.clauses.now in
    let i = c.loop-number.number - 1 in
    let item = c.index-clauses-number.result in
    all_grow clauses c.requires.numbers (values_in c.args.map.now) i item
    (read_at clauses i item (omega arith) c.index-clauses-number.is) c.args.queued.now c.loop-number.queued
    c.wake.new.queued c.loop-number.invariant.grows c.wake.ensures.grows

pub returns-clause-woken : goal.returns-clause-woken
returns-clause-woken g c =
    let past = c.loop-number-test.false in
    λ n d e from t. c.loop-number.invariant.woken n d e (omega (arith, from, past)) t
