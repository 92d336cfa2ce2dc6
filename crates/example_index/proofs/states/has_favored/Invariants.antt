use Rattle.std.proofs.Common.{◌≡◌, drop, map}
use Rattle.example_index.proofs.Words.{has_favored, plain_entry}
use Rattle.example_index.proofs.states.has_favored.Given as goal

abbrev pub invariant-loop-entry : goal.invariant-loop-entry
invariant-loop-entry l = has_favored (map plain_entry (drop l.entry-index l.entries)) ≡ has_favored
    (map plain_entry l.entries)
