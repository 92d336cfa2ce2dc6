use Rattle.std.proofs.Common.{◌≡◌, ◌<◌, [], length}
use Rattle.script_packages.proofs.Words.{All, listed_sets, words}
use Rattle.script_packages.proofs.packages.Packages.sets.Given as goal

abbrev pub invariant-loop-word : goal.invariant-loop-word
invariant-loop-word l =
    let count = length l.self.pool.version_sets in
    record {
      listed : listed_sets count l.sets.items (words l.rest) ≡ listed_sets count [] (words l.text);
      known : All (λ v. v.0 < count) l.sets.items;
    }

abbrev pub decreases-loop-word : goal.decreases-loop-word
decreases-loop-word l = length l.rest
