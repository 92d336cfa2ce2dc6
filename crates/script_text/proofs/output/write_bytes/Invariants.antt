use Rattle.std.proofs.Common.{◌≡◌, ◌++◌, List, ℕ}
use Rattle.std.specs.Io.KnownBytes.{Appends}
use Rattle.script_text.specs.Devices.{Calls}
use Rattle.script_text.proofs.output.write_bytes.Given as goal

abbrev pub invariant-loop : goal.invariant-loop
invariant-loop g l = record {
  calls : Calls g.W.Sink.writes l.counter l.fn.writer l.writer;
  split : (done : List ℕ) × (l.bytes ≡ done ++ l.rest)
      × Appends (g.W.Sink.contents l.fn.writer) (g.W.Sink.contents l.writer) done;
}
