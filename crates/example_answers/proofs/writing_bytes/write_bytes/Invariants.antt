use Rattle.std.proofs.Common.{◌≡◌, ◌++◌, List, ℕ}
use Rattle.example_answers.proofs.Words.{Appends, Calls}
use Rattle.example_answers.proofs.writing_bytes.write_bytes.Given as goal

abbrev pub invariant-loop : goal.invariant-loop
invariant-loop g l = record {
  calls : Calls g.W.Sink.writes l.counter l.fn.writer l.writer;
  split : (done : List ℕ) × (l.bytes ≡ done ++ l.rest)
      × Appends (g.W.Sink.contents l.fn.writer) (g.W.Sink.contents l.writer) done;
}
