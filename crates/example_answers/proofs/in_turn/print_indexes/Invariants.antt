use Rattle.std.proofs.Common.{map}
use Rattle.example_answers.proofs.Words.{GoesWell, plain_lines}
use Rattle.example_answers.proofs.PrintLemmas.{SoFar}
use Rattle.example_answers.proofs.in_turn.print_indexes.Given as goal

abbrev pub invariant-loop-lines : goal.invariant-loop-lines
invariant-loop-lines g l = record {
  so_far : SoFar g.A.Answering.answers l.fn.printer.is_first (map plain_lines l.indexes) l.lines-index
      (g.W.Sink.contents l.fn.printer.writer) (g.W.Sink.contents l.printer.writer) l.printer.is_first l.worst;
  writer : GoesWell g.W.Sink.writes g.W.Sink.fails l.fn.printer.writer l.printer.writer;
}
