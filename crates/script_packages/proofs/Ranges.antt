-- The solvables whose versions are in a range.
use Rattle.std.proofs.Common.{ℕ, Bool, List}
use Rattle.script_packages.proofs.Words.{is_within, Solvable, version_at, VersionRange}

-- whether a solvable's version is in the range
abbrev pub holds : VersionRange → List (Solvable ℕ) → ℕ → Bool
holds range all s = is_within range (version_at all s)
