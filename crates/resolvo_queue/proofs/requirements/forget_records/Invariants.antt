use Rattle.std.proofs.Common.{◌≡◌, take, drop, map}
use Rattle.resolvo_queue.proofs.Words.{forgotten, record_seen}
use Rattle.resolvo_queue.proofs.requirements.forget_records.Given as goal

abbrev pub invariant-loop-record : goal.invariant-loop-record
invariant-loop-record g l = record {
  done : map record_seen (take l.record-index l.records) ≡
      map forgotten (map record_seen (take l.record-index l.initial.records));
  left : drop l.record-index l.records ≡ drop l.record-index l.initial.records;
}
