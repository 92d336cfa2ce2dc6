use Rattle.std.proofs.Common.{◌≡◌, ◌+◌, ◌≤◌, length, filter, List, ℕ, Option, None, Some}
use Rattle.script_packages.proofs.Words.{is_starred, position_from, words}
use Rattle.script_packages.proofs.versions.favored_place.Given as goal

-- what is told of all words by those that are left, the first of which has this place
abbrev pub Tells : Option ℕ → ℕ → List (List ℕ) → List (List ℕ) → Type 0
Tells None place left all =
    (length (filter is_starred left) ≡ length (filter is_starred all))
    × (position_from is_starred place left ≡ position_from is_starred 0 all)
Tells (Some favored) place left all =
    (length (filter is_starred left) + 1 ≡ length (filter is_starred all))
    × (position_from is_starred 0 all ≡ Some favored)

abbrev pub invariant-loop-word : goal.invariant-loop-word
invariant-loop-word l = record {
  tells : Tells l.favored l.place (words l.rest) (words l.text);
  fits : l.place + length l.rest ≤ length l.text;
}

abbrev pub decreases-loop-word : goal.decreases-loop-word
decreases-loop-word l = length l.rest
