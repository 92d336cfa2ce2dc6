use Rattle.std.proofs.Common.{◌≡◌, ◌-◌, ◌<◌, length}
use Rattle.script_packages.proofs.Words.{listed_versions, listing_of, words}
use Rattle.script_packages.proofs.packages.Packages.add_others.Given as goal

abbrev pub invariant-loop-word : goal.invariant-loop-word
invariant-loop-word l = record {
  listed : listed_versions (listing_of l.self) l.name (words l.rest)
      ≡ listed_versions (listing_of l.fn.self) l.name (words l.text);
  last : l.last ≡ length l.self.pool.solvables - 1;
  spans : l.self.spans ≡ l.fn.self.spans;
  name : l.name < length l.self.pool.names;
}

abbrev pub decreases-loop-word : goal.decreases-loop-word
decreases-loop-word l = length l.rest
