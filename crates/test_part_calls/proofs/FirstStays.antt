-- A value that came in stands at its place in the lists that come after.
use Rattle.std.proofs.Common.{◌≡◌, ◌<◌, ℕ, zero, suc, Bool, List, [], ◌∷◌, ◌++◌, length, Some, refl, arith}
use Rattle.std.specs.Prelude.{slice_get}
use Rattle.std.proofs.lemmas.Option.{slice_get_within}
use Rattle.package_pool.specs.Interned.{interned, interned_place, first_same}
use Rattle.package_pool.specs.Pool.{IsExtended}
use Rattle.package_pool.proofs.InternedLemmas.{first_stands}
use Rattle.package_pool.proofs.LaterLemmas.{extended_length}

module _ {X : Type 0} (same : X → X → Bool) (before came : List X) (x : X) (place : ℕ)
    (is_place : place ≡ interned_place same before x) (has_come : came ≡ interned same before x) where
  pub first_here : slice_get came place ≡ Some (first_same same before x)
  first_here = rw (has_come, is_place) (first_stands same x before)

  pub place_here : place < length came
  place_here = slice_get_within came place (first_same same before x) first_here

at_place : {X : Type 0} (old more : List X) (place : ℕ) → place < length old →
    slice_get (old ++ more) place ≡ slice_get old place
at_place [] more place h = absurd (omega arith)
at_place (k ∷ ks) more zero h = refl
at_place (k ∷ ks) more (suc place) h = at_place ks more place (omega arith)

pub stands_still : {X : Type 0} (old new : List X) → IsExtended old new → (place : ℕ) → place < length old →
    slice_get new place ≡ slice_get old place
stands_still old new h place lt = rw h.1 (at_place old h.0 place lt)

pub place_still : {X : Type 0} (old new : List X) → IsExtended old new → (place : ℕ) → place < length old →
    place < length new
place_still old new h place lt = let longer = extended_length old new h in omega (arith, longer)
