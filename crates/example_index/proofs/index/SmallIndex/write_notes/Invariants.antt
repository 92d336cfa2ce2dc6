use Rattle.std.proofs.Common.{◌≡◌, [], ◌++◌, drop}
use Rattle.example_index.proofs.Words.{IsContinued, IsSameText, notes_from, string_bytes}
use Rattle.example_index.proofs.index.SmallIndex.write_notes.Given as goal

abbrev pub invariant-loop-i : goal.invariant-loop-i
invariant-loop-i l = record {
  text : IsContinued l.fn.text l.text;
  none : l.sets ≡ [] → IsSameText l.fn.text l.text;
  told : string_bytes l.text ++ notes_from l.self l.room l.noted.items (drop l.i l.sets)
      ≡ string_bytes l.fn.text ++ notes_from l.self 20 [] l.sets;
}
