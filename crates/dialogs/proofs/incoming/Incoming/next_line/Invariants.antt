use Rattle.std.proofs.Common.{◌≡◌, ◌≤◌, true, take, length}
use Rattle.std.specs.Io.KnownBytes.{IsAtEnd}
use Rattle.dialogs.specs.LineReads.{HasNoFeed, LineReads}
use Rattle.dialogs.proofs.incoming.Incoming.next_line.Given as goal

abbrev pub invariant-loop : goal.invariant-loop
invariant-loop g l = record {
  few : l.looked ≤ length l.self.held.items;
  none : HasNoFeed (take l.looked l.self.held.items);
  reads : LineReads g.S.Source.remaining g.S.Source.reads g.S.Source.fails l.counter l.fn.reader l.fn.self.held.items
      l.reader l.self.held.items;
  ended : l.fn.self.is_whole ≡ true → (l.counter ≡ 0) × (l.self.is_whole ≡ true);
  whole : l.self.is_whole ≡ true → IsAtEnd (g.S.Source.remaining l.reader);
}
