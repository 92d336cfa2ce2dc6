-- What callers see of the counters: groups of literals, clauses of groups, and which literals are false.
use Rattle.std.specs.Prelude.{◌≡◌, ℕ, ◌<◌, ◌≤◌, Bool, not, ◌||◌, ◌&&◌, ◌==◌, List, [], ◌∷◌, ◌++◌, length}
use Rattle.std.specs.Prelude.{map, flat_map, slice_index_or, if◌then◌else◌, Option}
use Rattle.std.specs.List.{All, list_any, list_all}
use Rattle.decisions.specs.Literals.{Lit, Pos}
use Rattle.decisions.specs.LiteralIndex.{literal_index}
use Rattle.clause_counters.specs.Links.{count}
use Rattle.clause_counters.specs.CounterState.{CounterState, stood_at, clauses_of_group}
use Rattle.clause_counters.specs.First.{IsFirstOf}

-- a clause as callers see it: the numbers of its groups, and that of the first clause of its parent
pub record GroupClause : Type 0 where
  pub groups : List ℕ
  pub first_of_parent : ℕ

-- what callers see: the literals of each group, the clauses, and which literals are false
pub record GroupedClauses : Type 0 where
  pub groups : List (List Lit)
  pub clauses : List GroupClause
  pub is_false : Lit → Bool

abbrev pub no_group_clause : GroupClause
no_group_clause = record { groups = []; first_of_parent = 0 }

abbrev pub literals_of_group : GroupedClauses → ℕ → List Lit
literals_of_group s group = slice_index_or s.groups group []

abbrev pub grouped_clause : GroupedClauses → ℕ → GroupClause
grouped_clause s clause = slice_index_or s.clauses clause no_group_clause

-- whether it is the literal with this index
abbrev pub has_index : ℕ → Lit → Bool
has_index index l = literal_index l == index

-- how many places the literal with this index has in a group of these: one if it is among them
abbrev pub once : ℕ → List Lit → ℕ
once index literals = if list_any (has_index index) literals then 1 else 0

-- the counters represent these groups, clauses and false literals
pub record Represents (v : CounterState) (s : GroupedClauses) : Type 0 where
  pub size : length v.groups ≡ length s.groups
  pub firsts : v.firsts ≡ map (λ c. c.first_of_parent) s.clauses
  pub stands : (index group : ℕ) → count group (stood_at v index).groups ≡ once index (literals_of_group s group)
  pub joins : (group clause : ℕ) → count clause (clauses_of_group v group)
      ≡ count group (grouped_clause s clause).groups
  pub falses : (l : Lit) (group : ℕ) → 1 ≤ count group (stood_at v (literal_index l)).groups
      → (stood_at v (literal_index l)).is_false ≡ s.is_false l

-- a literal becomes false, or undecided
abbrev pub with_false : Lit → GroupedClauses → GroupedClauses
with_false l s = record s { is_false = λ other. has_index (literal_index l) other || s.is_false other }

abbrev pub with_undecided : Lit → GroupedClauses → GroupedClauses
with_undecided l s = record s { is_false = λ other. not (has_index (literal_index l) other) && s.is_false other }

-- no group and no clause, with any literals false
abbrev pub empty : (Lit → Bool) → GroupedClauses
empty is_false = record { groups = []; clauses = []; is_false = is_false }

-- a group comes, or a clause
abbrev pub with_group : List Lit → GroupedClauses → GroupedClauses
with_group literals s = record s { groups = s.groups ++ literals ∷ [] }

abbrev pub with_clause : List ℕ → ℕ → GroupedClauses → GroupedClauses
with_clause groups first_of_parent s =
    record s { clauses = s.clauses ++ (record { groups = groups; first_of_parent = first_of_parent }) ∷ [] }

-- whatever was represented still is
abbrev pub StillRepresents : CounterState → CounterState → Type 0
StillRepresents old new = (s : GroupedClauses) → Represents old s → Represents new s

-- the group of these literals comes with this number, if the function says which of them are false
abbrev pub AddsGroup : CounterState → List Lit → (Lit → Bool) → ℕ → CounterState → Type 0
AddsGroup old literals is_false group new =
    (s : GroupedClauses) → Represents old s → All (λ l. s.is_false l ≡ is_false l) literals
    → (group ≡ length s.groups) × Represents new (with_group literals s)

-- the clause of these groups, whose parent has this first clause, comes with this number
abbrev pub AddsClause : CounterState → List ℕ → ℕ → ℕ → CounterState → Type 0
AddsClause old groups first_of_parent clause new = (s : GroupedClauses) → Represents old s
    → (clause ≡ length s.clauses) × Represents new (with_clause groups first_of_parent s)

-- the positive literals of the variables, list by list
abbrev pub row_literals : List (List ℕ) → List Lit
row_literals lists = flat_map (map Pos) lists

-- each literal of each group of the clause is false
abbrev pub is_falsified : GroupedClauses → ℕ → Bool
is_falsified s clause = list_all (λ g. list_all s.is_false (literals_of_group s g)) (grouped_clause s clause).groups

-- the answer is the first of the falsified clauses
abbrev pub IsFirstFalsified : GroupedClauses → Option ℕ → Type 0
IsFirstFalsified s answer =
    IsFirstOf (λ c. (grouped_clause s c).first_of_parent) (length s.clauses) (is_falsified s) answer
