use Rattle.std.proofs.Common.{◌++◌, take}
use Rattle.script_text.proofs.Calls.{calls_more, moves_front}
use Rattle.std.proofs.KnownBytes.{Appends-trans}
use Rattle.script_text.proofs.output.write_bytes.Goals as goal

pub loop-preserved : goal.loop-preserved
loop-preserved g c =
    let (done, split, appended) = c.loop.invariant.split in
    let rest = c.loop.rest.now in
    let n = c.in_ok-taken.taken in
    record {
      calls = calls_more g.W.Sink.writes c.loop.counter c.args.writer.now c.loop.writer c.write_some.new.writer
          c.loop.invariant.calls c.in_ok-taken.ensures.once;
      split = (
        done ++ take n rest,
        moves_front c.args.bytes.now done rest n split,
        Appends-trans _ _ _ _ _ appended c.in_ok-taken.ensures.bytes,
      );
    }
