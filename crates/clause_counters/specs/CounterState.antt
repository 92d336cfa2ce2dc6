-- The state of the counters: clauses, and the groups of literals that they are made of.
use Rattle.std.specs.Prelude.{◌≡◌, ℕ, ◌+◌, ◌-◌, ◌^◌, Bool, false, ◌&&◌, nat_le, List, [], map}
use Rattle.std.specs.Prelude.{slice_index_or, slice_set}
use Rattle.clause_counters.specs.declared.links.Link.{Link}
use Rattle.clause_counters.specs.declared.groups.Standing.{Standing}
use Rattle.clause_counters.specs.declared.groups.Group.{Group}
use Rattle.clause_counters.specs.Links.{numbers_at}
use Rattle.clause_counters.specs.Counted.{clause_lists}

-- a literal: whether it is false, and the groups in which it stands
pub record Stood : Type 0 where
  pub is_false : Bool
  pub groups : List ℕ

-- the literals by their indexes, the clauses of each group, the first clause of each clause's parent, and whether there
-- is room for a clause more
pub record CounterState : Type 0 where
  pub literals : List Stood
  pub groups : List (List ℕ)
  pub firsts : List ℕ
  pub has_room : Bool

-- the state in pools, literals and groups
abbrev pub stood_in : List Link → Standing → Stood
stood_in places l = record { is_false = l.is_false; groups = numbers_at places l.groups }

abbrev pub counters_in : List Link → List Standing → List Link → List Group → List ℕ → Bool → CounterState
counters_in places literals members groups firsts has_room = record {
  literals = map (stood_in places) literals;
  groups = map (numbers_at members) (clause_lists groups);
  firsts = firsts;
  has_room = has_room;
}

-- the members of a clause more have numbers, and places in a pool of this capacity
abbrev pub fit_three : ℕ → ℕ → Bool
fit_three len capacity = nat_le (len + 3) (2 ^ 32 - 1) && nat_le (len + 3) capacity

-- a literal that stands nowhere
abbrev pub nowhere : Stood
nowhere = record { is_false = false; groups = [] }

abbrev pub stood_at : CounterState → ℕ → Stood
stood_at v index = slice_index_or v.literals index nowhere

abbrev pub clauses_of_group : CounterState → ℕ → List ℕ
clauses_of_group v group = slice_index_or v.groups group []

-- the literal at this index becomes false, or not false; behind the last literal nothing changes
abbrev pub with_flag : Bool → ℕ → CounterState → CounterState
with_flag mark index v =
    record v { literals = slice_set v.literals index (record (stood_at v index) { is_false = mark }) }

-- the same state, whatever there is room for
abbrev pub IsSameButRoom : CounterState → CounterState → Type 0
IsSameButRoom old new = new ≡ record old { has_room = new.has_room }
