use Rattle.std.proofs.Common.{Bool}
use Rattle.script_text.proofs.Calls.{read_ended}
use Rattle.script_text.proofs.input.read_pieces.Goals as goal

pub returns-in-Err-clause-ends : goal.returns-in-Err-clause-ends
returns-in-Err-clause-ends g c =
    read_ended Bool (Unit {0}) g.S.Source.reads g.S.Source.fails c.args.reads c.loop.counter c.args.reader.now
    c.loop.reader c.read_piece.new.reader c.in-Err.fault c.loop-test.true c.loop.invariant.calls
    c.in-Err.ensures.read
