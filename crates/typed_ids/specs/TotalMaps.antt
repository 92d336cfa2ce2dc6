-- Total maps as functions from keys to values.
use Rattle.std.specs.Prelude.{◌≡◌, ◌≢◌, ◌⊎◌, ℕ, ◌<◌, ◌^◌, true, false, min, List, length}
use Rattle.std.specs.Prelude.{take, slice_index_or, Option, None, Some, is_some, refl}
use Rattle.std.specs.Option.{unwrap_or}
use Rattle.std.specs.Ordering.{is_gt}
use Rattle.std.specs.declared.cmp.Ordering.{Ordering}
use Rattle.std.proofs.Common.{arith, sym, subst}
use Rattle.std.proofs.lemmas.List.{get_or_past, length-take}

-- the new map has the value at the key, and elsewhere what the old one has
abbrev pub IsUpdate : {K V : Type 0} → (K → V) → K → V → (K → V) → Type 0
IsUpdate {K} old key value new = (new key ≡ value) × ((other : K) → other ≢ key → new other ≡ old other)

-- both maps have the same value at each key
abbrev pub SameValues : {K V : Type 0} → (K → V) → (K → V) → Type 0
SameValues {K} old new = (key : K) → new key ≡ old key

-- neither the default nor a value of the map is larger than this one, which is among them
pub record IsLargest {K V : Type 0} (compare : V → V → Ordering) (default : V) (values : K → V)
    (largest : V) : Type 0 where
  pub default_below : is_gt (compare default largest) ≡ false
  pub values_below : (key : K) → is_gt (compare (values key) largest) ≡ false
  pub among : (largest ≡ default) ⊎ ((key : K) × (largest ≡ values key))

-- the places of dense storage that a key can stand for: ids end at the limit, and storage at 2^40
abbrev pub kept : {V : Type 0} → ℕ → List V → List V
kept limit items = take (min limit (2 ^ 40)) items

-- what isn't the default is within the list, and below 2^40
pub kept_within : {V : Type 0} (limit : ℕ) (items : List V) (default : V) (index len : ℕ) → len ≡ length items →
    slice_index_or (kept limit items) index default ≢ default → (index < len) × (index < 2 ^ 40)
kept_within limit items default index len e h =
    let places = min limit (2 ^ 40) in
    let there : index < min places (length items) =
    grind (arith, length-take places items, get_or_past (kept limit items) index default) in
    (omega arith, omega arith)

-- what isn't the default was stored
pub some_is_stored : {V : Type 0} (stored : Option V) (default : V) → unwrap_or stored default ≢ default →
    is_some stored ≡ true
some_is_stored None default h = absurd (h refl)
some_is_stored (Some value) default h = refl

-- what isn't a default isn't this one
pub not_default : {V : Type 0} (is_default : V → Type 0) {default value : V} → is_default default →
    (is_default value → ⊥) → value ≢ default
not_default is_default default_is not_one e = not_one (subst is_default (sym e) default_is)
