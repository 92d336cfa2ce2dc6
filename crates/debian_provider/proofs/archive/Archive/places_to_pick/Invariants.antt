use Rattle.std.proofs.Common.{ℕ, ◌<◌, get_or}
use Rattle.std.specs.Prelude.{All}
use Rattle.debian_provider.proofs.Words.{Contains, IsPlaceOf, plain_name}
use Rattle.debian_provider.proofs.archive.Archive.places_to_pick.Given as goal

-- what was found is to be picked, and of the places so far each that is to be picked was found
abbrev pub invariant-loop-place : goal.invariant-loop-place
invariant-loop-place l = record {
  each : All (IsPlaceOf l.self.rules (plain_name l.name)) l.found.items;
  all : (k : ℕ) → k < l.place-index → IsPlaceOf l.self.rules (plain_name l.name) (get_or l.places k 0) →
      Contains l.found.items (get_or l.places k 0);
}
