use Rattle.std.proofs.Common.{◌≡◌, ◌++◌, drop, ℕ, Bool, List}
use Rattle.providers.specs.Provider.{filtered}
use Rattle.test_support.specs.declared.listed.Package.{Package}
use Rattle.test_support.specs.declared.listed.VersionRange.{VersionRange}
use Rattle.test_support.specs.Listed.{version_at, is_within}
use Rattle.test_support.proofs.listed.within.Given as goal

-- whether a solvable's version is in the range
abbrev pub holds : {S : Type 0} → (S → ℕ) → VersionRange → List Package → S → Bool
holds number range packages s = is_within range (version_at packages (number s))

abbrev pub invariant-loop-solvable : goal.invariant-loop-solvable
invariant-loop-solvable g l =
    l.found.items ++ filtered (holds g.S.Numbered.number_of l.range l.packages) l.inverse
    (drop l.solvable-index l.candidates) ≡ filtered
    (holds g.S.Numbered.number_of l.range l.packages) l.inverse l.candidates
