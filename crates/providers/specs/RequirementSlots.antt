-- The places of entries by their requirements, in a table of version sets and one of unions.
use Rattle.std.specs.Prelude.{◌≡◌, ℕ, ◌^◌, Bool, ◌&&◌, nat_lt, List, length, slice_index_or, Option, None}
use Rattle.typed_ids.specs.TotalMaps.{kept}
use Rattle.providers.specs.declared.requirement.Requirement.{Requirement}
use Rattle.providers.specs.declared.requirement.Requirement.TheVariants.{Single, Union}

-- the tables
pub record Tables : Type 0 where
  pub sets : List (Option ℕ)
  pub unions : List (Option ℕ)

-- what a table of ids that end at a limit has at an index
abbrev pub slot_at : ℕ → List (Option ℕ) → ℕ → Option ℕ
slot_at limit table index = slice_index_or (kept limit table) index None

-- whether a table has a slot for an index
abbrev pub has_slot : List (Option ℕ) → ℕ → Bool
has_slot table index = nat_lt index (length table) && nat_lt index (2 ^ 40)

-- two tables have the same at each id
abbrev pub SameSlots : {K : Type 0} → ℕ → (K → ℕ) → List (Option ℕ) → List (Option ℕ) → Type 0
SameSlots {K} limit index_of old new = (id : K) → slot_at limit new (index_of id) ≡ slot_at limit old (index_of id)

-- the place of the requirement's entry, if it has one; the limit is that of the ids
abbrev pub place_in : Tables → Requirement → Option ℕ
place_in tables (Single set) = slot_at (2 ^ 32) tables.sets set.0
place_in tables (Union union) = slot_at (2 ^ 32) tables.unions union.0

-- whether there is a slot for the requirement
abbrev pub has_slot_for : Tables → Requirement → Bool
has_slot_for tables (Single set) = has_slot tables.sets set.0
has_slot_for tables (Union union) = has_slot tables.unions union.0
