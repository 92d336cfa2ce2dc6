use Rattle.std.proofs.Common.{◌≡◌, ◌++◌, List, ℕ}
use Rattle.std.specs.Io.KnownBytes.{Consumes}
use Rattle.script_text.specs.Devices.{Calls}
use Rattle.script_text.proofs.input.read_pieces.Given as goal

abbrev pub invariant-loop : goal.invariant-loop
invariant-loop g l = record {
  calls : Calls g.S.Source.reads l.counter l.fn.reader l.reader;
  bytes : (bytes : List ℕ) × Consumes (g.S.Source.remaining l.fn.reader) (g.S.Source.remaining l.reader) bytes
      × (l.input.items ≡ l.fn.input.items ++ bytes);
}
