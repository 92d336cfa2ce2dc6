use Rattle.std.proofs.Common.{◌≡◌, map, take}
use Rattle.example_index.proofs.Words.{AreEntries, IsLater, plain_entry, with_bytes}
use Rattle.example_index.proofs.states.intern_entries.Given as goal

-- what the entries so far need and limit
abbrev pub invariant-loop-entry : goal.invariant-loop-entry
invariant-loop-entry l = record {
  are : AreEntries (with_bytes l.pool) l.found (map plain_entry (take l.entry-index l.entries));
  later : IsLater l.fn.pool l.pool;
  solvables : l.pool.solvables ≡ l.fn.pool.solvables;
}
