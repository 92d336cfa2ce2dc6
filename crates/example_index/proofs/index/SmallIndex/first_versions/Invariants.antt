use Rattle.std.proofs.Common.{◌≡◌, ◌++◌, drop}
use Rattle.example_index.proofs.Words.{string_bytes, versions_from}
use Rattle.example_index.proofs.index.SmallIndex.first_versions.Given as goal

abbrev pub invariant-loop-i : goal.invariant-loop-i
invariant-loop-i l =
    string_bytes l.text ++ versions_from l.self l.i (drop l.i l.solvables) ≡ versions_from l.self 0 l.solvables
