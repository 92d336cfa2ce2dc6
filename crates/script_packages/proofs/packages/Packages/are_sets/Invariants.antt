use Rattle.std.proofs.Common.{◌≡◌, length}
use Rattle.script_packages.proofs.Words.{are_sets, words}
use Rattle.script_packages.proofs.packages.Packages.are_sets.Given as goal

abbrev pub invariant-loop-word : goal.invariant-loop-word
invariant-loop-word l =
    let count = length l.self.pool.version_sets in
    are_sets count (words l.rest) ≡ are_sets count (words l.text)

abbrev pub decreases-loop-word : goal.decreases-loop-word
decreases-loop-word l = length l.rest
