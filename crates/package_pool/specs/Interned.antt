-- Lists in which equal values stand once, and are named by their places.
use Rattle.std.specs.Prelude.{ℕ, Bool, List, [], ◌∷◌, ◌++◌, if◌then◌else◌, unwrap_or}
use Rattle.std.specs.List.{list_any, find, position_or_len}

module _ {X : Type 0} (same : X → X → Bool) where
  -- whether a value of the list is equal to this one
  abbrev pub has_same : List X → X → Bool
  has_same list x = list_any (same x) list

  -- the list with this value at its end, or as it is where an equal one is there
  abbrev pub interned : List X → X → List X
  interned list x = if has_same list x then list else list ++ x ∷ []

  -- the place of the first equal value, or the one behind the last
  abbrev pub interned_place : List X → X → ℕ
  interned_place list x = position_or_len (same x) list

  -- the first equal value, or this one where there is none
  abbrev pub first_same : List X → X → X
  first_same list x = unwrap_or (find (same x) list) x
