use Rattle.std.proofs.Common.{◌+◌}
use Rattle.script_text.proofs.Calls.{calls_more}
use Rattle.script_text.proofs.output.write_rest.Goals as goal

pub returns-in-Ok-clause-ends : goal.returns-in-Ok-clause-ends
returns-in-Ok-clause-ends g c =
    let (n, written) = c.in_ok-write_waiting.ensures.ends in (
      n + 1,
      calls_more g.W.Sink.writes n c.args.writer.now c.write_waiting.new.writer c.flush.new.self written
          c.in-Ok.ensures.writes,
    )
