-- The numbers of groups by their keys, in a table for each kind of id.
use Rattle.std.specs.Prelude.{◌≡◌, ℕ, ◌-◌, ◌^◌, Bool, ◌&&◌, nat_lt, List, length, slice_index_or, Option, None}
use Rattle.std.specs.List.{position}
use Rattle.typed_ids.specs.TotalMaps.{kept}
use Rattle.providers.specs.declared.requirement.Requirement.TheVariants.{Single, Union}
use Rattle.falsified_clauses.specs.declared.group_key.GroupKey.{GroupKey}
use Rattle.falsified_clauses.specs.declared.group_key.GroupKey.TheVariants.{Parent, Condition, Rows}
use Rattle.falsified_clauses.specs.GroupKeys.{same_key}

-- the tables
pub record Tables : Type 0 where
  pub parents : List (Option ℕ)
  pub conditions : List (Option ℕ)
  pub sets : List (Option ℕ)
  pub unions : List (Option ℕ)

-- the number in a table of ids that end at a limit
abbrev pub slot_at : ℕ → List (Option ℕ) → ℕ → Option ℕ
slot_at limit table index = slice_index_or (kept limit table) index None

-- whether a table has a place for an index
abbrev pub has_place : List (Option ℕ) → ℕ → Bool
has_place table index = nat_lt index (length table) && nat_lt index (2 ^ 40)

-- two tables have the same number at each id
abbrev pub SameSlots : {K : Type 0} → ℕ → (K → ℕ) → List (Option ℕ) → List (Option ℕ) → Type 0
SameSlots {K} limit index_of old new = (id : K) → slot_at limit new (index_of id) ≡ slot_at limit old (index_of id)

-- the number of a key's group, if it has one; each limit is that of the ids that the table is by
abbrev pub number_of : Tables → GroupKey → Option ℕ
number_of tables (Parent parent) = slot_at (2 ^ 31 - 1) tables.parents parent
number_of tables (Condition d) = slot_at (2 ^ 32 - 1) tables.conditions d
number_of tables (Rows (Single set)) = slot_at (2 ^ 32) tables.sets set.0
number_of tables (Rows (Union union)) = slot_at (2 ^ 32) tables.unions union.0

-- whether there is room for a number
abbrev pub has_room_for : Tables → GroupKey → Bool
has_room_for tables (Parent parent) = has_place tables.parents parent
has_room_for tables (Condition d) = has_place tables.conditions d
has_room_for tables (Rows (Single set)) = has_place tables.sets set.0
has_room_for tables (Rows (Union union)) = has_place tables.unions union.0

-- the function finds exactly the numbers of the keys
abbrev pub FindsKeys : (GroupKey → Option ℕ) → List GroupKey → Type 0
FindsKeys number keys = (key : GroupKey) → number key ≡ position (same_key key) keys
