-- What adding places and members leaves.
use Rattle.std.specs.Prelude.{◌≡◌, ℕ, ◌+◌, ◌-◌, ◌≤◌, Bool, not, ◌&&◌, if◌then◌else◌}
use Rattle.std.specs.Prelude.{◌==◌, List, [], ◌∷◌, ◌++◌, length, slice_set}
use Rattle.std.specs.List.{count_by}
use Rattle.clause_counters.specs.declared.links.Link.{Link}
use Rattle.clause_counters.specs.declared.groups.Standing.{Standing}
use Rattle.clause_counters.specs.declared.groups.Group.{Group}
use Rattle.clause_counters.specs.Links.{link_at, IsLinked, numbers_at, count}
use Rattle.clause_counters.specs.Counted.{standing_at, group_at}

-- each literal's list lies in the pool
pub record IsStanding (places : List Link) (literals : List Standing) : Type 0 where
  pub linked : IsLinked places
  pub within : (l : ℕ) → (standing_at literals l).groups ≤ length places

-- and each group's
pub record IsMember (members : List Link) (groups : List Group) : Type 0 where
  pub linked : IsLinked members
  pub within : (g : ℕ) → (group_at groups g).clauses ≤ length members

-- a literal that stands nowhere yet gets the new flag, another keeps its own
abbrev pub initial_flag : Standing → Bool → Bool
initial_flag at new_flag = if at.groups == 0 then new_flag else at.is_false

-- the literal's newest place is of the group
abbrev pub is_newest : List Link → Standing → ℕ → Bool
is_newest places at group = not (at.groups == 0) && (link_at places (at.groups - 1)).value == group

-- the literal at the index gets one place more, of the group
abbrev pub with_place : List Link → List Standing → ℕ → ℕ → List Link
with_place places literals index group =
    places ++ (record { value = group; next = (standing_at literals index).groups }) ∷ []

abbrev pub placed_at : List Link → List Standing → ℕ → Bool → List Standing
placed_at places literals index new_flag = slice_set literals index
    (record { is_false = initial_flag (standing_at literals index) new_flag; groups = length places + 1 })

-- the same, but a literal whose newest place is of the group gets no other
abbrev pub with_place_once : List Link → List Standing → ℕ → ℕ → List Link
with_place_once places literals index group =
    if is_newest places (standing_at literals index) group then places else with_place places literals index group

abbrev pub placed_once : List Link → List Standing → ℕ → ℕ → Bool → List Standing
placed_once places literals index group new_flag =
    if is_newest places (standing_at literals index) group then literals else placed_at places literals index new_flag

-- the clause becomes a member of the group
abbrev pub with_member : List Link → List Group → ℕ → ℕ → List Link
with_member members groups group clause =
    members ++ (record { value = clause; next = (group_at groups group).clauses }) ∷ []

abbrev pub joined_at : List Link → List Group → ℕ → List Group
joined_at members groups group =
    slice_set groups group (record (group_at groups group) { clauses = length members + 1 })

-- each literal with a place is false as the function says
abbrev pub AreFlagged : List Link → List Standing → (ℕ → Bool) → Type 0
AreFlagged places literals is_false = (l g : ℕ) → 1 ≤ count g (numbers_at places (standing_at literals l).groups)
    → (standing_at literals l).is_false ≡ is_false l

-- how many of the groups aren't false
abbrev pub open_count : List Group → List ℕ → ℕ
open_count groups numbers = count_by (λ g. not ((group_at groups g).left == 0)) numbers
