use Rattle.std.proofs.Common.{◌≡◌, ◌++◌, drop, ℕ, Bool}
use Rattle.example_index.proofs.Words.{filtered, is_within, Lists, version_in, VersionRange}
use Rattle.example_index.proofs.index.within.Given as goal

-- whether a solvable's version is in the range
abbrev pub holds : {N : Type 0} → VersionRange → Lists N VersionRange ℕ → ℕ → Bool
holds range pool s = is_within range (version_in pool s)

abbrev pub invariant-loop-solvable : goal.invariant-loop-solvable
invariant-loop-solvable l =
    l.found.items ++ filtered (holds l.range l.pool) l.inverse (drop l.solvable-index l.solvables) ≡ filtered
    (holds l.range l.pool) l.inverse l.solvables
