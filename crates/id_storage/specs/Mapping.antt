-- Maps from indexes to values, as their slots: what index i has is in slot i. Slots come in chunks of 128.
use Rattle.std.specs.Prelude.{◌≡◌, ℕ, ◌+◌, ◌-◌, ◌*◌, ◌/◌, ◌%◌, ◌<◌, ◌≤◌, ◌^◌, List, [], ◌∷◌, ◌++◌, length}
use Rattle.std.specs.Prelude.{replicate, Option, Some, None, is_some, IsSome, count_by, slice_index_or, slice_set}

-- the number of slots in the chunks from the first to that of an index
abbrev pub slots_for : ℕ → ℕ
slots_for index = 128 * (index / 128 + 1)

module _ {V : Type 0} where
  -- what an index has: nothing past the slots
  abbrev pub value_at : List (Option V) → ℕ → Option V
  value_at slots index = slice_index_or slots index None

  -- the number of values
  abbrev pub value_count : List (Option V) → ℕ
  value_count slots = count_by is_some slots

  -- no slot holds a value
  abbrev pub AreEmpty : List (Option V) → Type 0
  AreEmpty slots = (index : ℕ) → value_at slots index ≡ None

  -- each value has an index below the limit
  abbrev pub AreBelow : ℕ → List (Option V) → Type 0
  AreBelow limit slots = (index : ℕ) → IsSome (value_at slots index) → index < limit

  -- `count` slots at least, where those that are added are empty
  abbrev pub with_slots : List (Option V) → ℕ → List (Option V)
  with_slots slots count = slots ++ replicate (count - length slots) None

  -- the slots with a value at an index, in the place of what it had
  abbrev pub with_value : List (Option V) → ℕ → V → List (Option V)
  with_value slots index value = slice_set slots index (Some value)

  -- the ids and values of slots of which the first has this index
  abbrev pub pairs_from : {K : Type 0} → (ℕ → K) → ℕ → List (Option V) → List (K × V)
  pairs_from id_at index [] = []
  pairs_from id_at index (None ∷ rest) = pairs_from id_at (index + 1) rest
  pairs_from id_at index (Some value ∷ rest) = (id_at index, value) ∷ pairs_from id_at (index + 1) rest

  -- the ids and values of a map, in the order of their indexes
  abbrev pub pairs : {K : Type 0} → (ℕ → K) → List (Option V) → List (K × V)
  pairs id_at slots = pairs_from id_at 0 slots

  -- whole chunks, one of them at least, with `count` values, each below the limit
  pub record IsMapping (limit : ℕ) (slots : List (Option V)) (count : ℕ) : Type 0 where
    pub whole : length slots % 128 ≡ 0
    pub chunk : 128 ≤ length slots
    pub bounded : length slots ≤ 2 ^ 40
    pub counted : count ≡ value_count slots
    pub below : AreBelow limit slots

  -- slots of which the first has this index, each value below the limit
  pub record IsTail (limit index : ℕ) (slots : List (Option V)) : Type 0 where
    pub bounded : index + length slots ≤ 2 ^ 40
    pub below : (place : ℕ) → IsSome (value_at slots place) → index + place < limit
