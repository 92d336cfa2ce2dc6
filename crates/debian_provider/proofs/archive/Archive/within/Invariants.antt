use Rattle.std.proofs.Common.{◌≡◌, ◌++◌, drop, ℕ, Bool, Some, List}
use Rattle.debian_provider.proofs.Words.{filtered, Ids, Package, package_in, Set, set_has}
use Rattle.debian_provider.proofs.archive.Archive.within.Given as goal

-- whether the set has a solvable's package
abbrev pub holds : List ℕ → Ids → List Package → Set → ℕ → Bool
holds native pool packages set s = set_has native (Some set) (package_in pool packages s)

abbrev pub invariant-loop-solvable : goal.invariant-loop-solvable
invariant-loop-solvable l =
    let test = holds l.self.rules.request.now.architecture.now l.self.reached.pool l.self.rules.packages.now l.set in
    l.found.items ++ filtered test l.inverse (drop l.solvable-index l.solvables) ≡ filtered test l.inverse l.solvables
