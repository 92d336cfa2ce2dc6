use Rattle.std.proofs.Common.{◌≡◌, true, []}
use Rattle.std.specs.Io.KnownBytes.{IsAtEnd}
use Rattle.dialogs.proofs.SoFar.{SoFar}
use Rattle.dialogs.proofs.talks.talk.Given as goal

abbrev pub invariant-loop-number : goal.invariant-loop-number
invariant-loop-number g l = record {
  so_far : SoFar g.A.Answerer.answers g.A.Answerer.refuses g.P.Source.remaining g.P.Sink.contents g.P.Source.reads
      g.P.Source.fails g.P.Sink.writes g.P.Sink.fails
      l.fn.answerer l.fn.peer l.answerer l.peer l.number l.incoming.held.items l.incoming.is_whole;
  at_end : l.incoming.is_whole ≡ true → IsAtEnd (g.P.Source.remaining l.peer);
  none : l.answer.items ≡ [];
}
