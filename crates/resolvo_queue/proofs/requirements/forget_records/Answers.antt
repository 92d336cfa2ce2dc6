use Rattle.std.proofs.Common.{get_or, refl, ap}
use Rattle.resolvo_queue.proofs.Words.{forgotten, record_seen}
use Rattle.resolvo_queue.proofs.Clauses.Records.{all_done, all_left}
use Rattle.resolvo_queue.proofs.requirements.forget_records.Goals as goal

pub loop-record-preserved : goal.loop-record-preserved
loop-record-preserved g c =
    let i = c.loop-record.record-index in
    let r = get_or c.loop-record.records i c.record-item.result in
    record {
      done = all_done record_seen forgotten c.args.records.now c.loop-record.records i r _ c.loop-record-test.true
          c.loop-record.auto.records (ap (λ x. get_or c.loop-record.records i x) c.record-item.is) refl
          c.loop-record.invariant.left c.loop-record.invariant.done;
      left = all_left record_seen forgotten c.args.records.now c.loop-record.records i r _ c.loop-record-test.true
          c.loop-record.auto.records (ap (λ x. get_or c.loop-record.records i x) c.record-item.is) refl
          c.loop-record.invariant.left;
    }
