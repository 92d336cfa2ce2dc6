use Rattle.std.proofs.Common.{◌≡◌, ◌<◌, ◌≤◌, ◌-◌, length, map}
use Rattle.example_index.proofs.Words.{All, is_empty_at, places_where, VersionSetId}
use Rattle.example_index.proofs.index.SmallIndex.empty_sets.Given as goal

-- the sets so far
abbrev pub invariant-loop-set : goal.invariant-loop-set
invariant-loop-set l = record {
  within : l.place ≤ length l.self.pool.version_sets;
  found : map (λ (set : VersionSetId). set.0) l.found.items ≡ places_where (is_empty_at l.self) l.place;
  known : All (λ (set : VersionSetId). set.0 < length l.self.pool.version_sets) l.found.items;
}

abbrev pub decreases-loop-set : goal.decreases-loop-set
decreases-loop-set l = length l.self.pool.version_sets - l.place
