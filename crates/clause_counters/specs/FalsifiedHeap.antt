-- Clauses by the number of their groups that aren't false, and which of the falsified ones comes first.
use Rattle.std.specs.Prelude.{◌≡◌, ℕ, ◌<◌, ◌≤◌, ◌-◌, ◌^◌, Bool, true, false, if◌then◌else◌, ◌==◌, nat_lt, ◌&&◌}
use Rattle.std.specs.Prelude.{slice_set, List, length, map, slice_index_or, slice_index, Option}
use Rattle.std.specs.List.{All, count_by}
use Rattle.std.specs.Ordering.{nat_cmp, ordering_then}
use Rattle.std.specs.declared.cmp.Ordering.{Ordering}
use Rattle.std.specs.BinaryHeap.{IsHeap, IsUpperBound}
use Rattle.std.specs.declared.cmp.Reverse.{Reverse}
use Rattle.clause_counters.specs.declared.position.Position.{Position}
use Rattle.clause_counters.specs.declared.falsified_heap.Clause.{Clause}
use Rattle.clause_counters.specs.First.{IsFirstOf}

-- how many groups of each clause aren't false, the first clauses of their parents, and whether there is room for a
-- clause more
pub record Tallies : Type 0 where
  pub lefts : List ℕ
  pub firsts : List ℕ
  pub has_room : Bool

-- what stands past the last clause
abbrev pub no_heap_clause : Clause
no_heap_clause = record { first_of_parent = 0; left = 0; is_in_heap = false }

abbrev pub heap_clause : List Clause → ℕ → Clause
heap_clause clauses number = slice_index_or clauses number no_heap_clause

-- how many groups of each clause aren't false, and the first clauses of their parents
abbrev pub lefts_of : List Clause → List ℕ
lefts_of clauses = map (λ c. c.left) clauses

abbrev pub firsts_of : List Clause → List ℕ
firsts_of clauses = map (λ c. c.first_of_parent) clauses

-- one clause more has a number, and a place in a vector and in a heap of these capacities
abbrev pub fits_one : ℕ → ℕ → ℕ → Bool
fits_one len capacity heap_capacity = nat_lt len (2 ^ 32 - 1) && nat_lt len capacity && nat_lt len heap_capacity

abbrev pub tallies_of : List Clause → ℕ → ℕ → Tallies
tallies_of clauses capacity heap_capacity = record {
  lefts = lefts_of clauses;
  firsts = firsts_of clauses;
  has_room = fits_one (length clauses) capacity heap_capacity;
}

-- how positions compare, and in a heap that has the least on top
abbrev pub heap_position_cmp : Position → Position → Ordering
heap_position_cmp a b = ordering_then (nat_cmp a.first_of_parent b.first_of_parent) (nat_cmp a.number b.number)

abbrev pub heap_cmp : Reverse Position → Reverse Position → Ordering
heap_cmp a b = heap_position_cmp b.0 a.0

-- the heap holds each clause that is marked so, once and with its position, and has room for all clauses
pub record IsHeld (clauses : List Clause) (entries : List (Reverse Position)) (capacity : ℕ) : Type 0 where
  pub heap : IsHeap heap_cmp entries
  pub once : (c : ℕ) → count_by (λ e. e.0.number == c) entries ≡ (if (heap_clause clauses c).is_in_heap then 1 else 0)
  pub placed : All (λ e. e.0.first_of_parent ≡ (heap_clause clauses e.0.number).first_of_parent) entries
  pub counted : length entries ≡ count_by (λ c. c.is_in_heap) clauses
  pub room : length clauses ≤ capacity
  pub few : length clauses ≤ 2 ^ 32

-- and each falsified clause is marked
pub record IsFalsifiedHeap (clauses : List Clause) (entries : List (Reverse Position)) (capacity : ℕ) : Type 0 where
  pub held : IsHeld clauses entries capacity
  pub falsified : (c : ℕ) → c < length clauses → (heap_clause clauses c).left ≡ 0
      → (heap_clause clauses c).is_in_heap ≡ true

-- the answer is the first of the falsified clauses, of which each group is false
abbrev pub IsFirst : List ℕ → List ℕ → Option ℕ → Type 0
IsFirst lefts firsts answer =
    IsFirstOf (slice_index firsts) (length lefts) (λ c. slice_index lefts c == 0) answer

-- the clause is marked so
abbrev pub with_mark : Bool → ℕ → List Clause → List Clause
with_mark mark number clauses = slice_set clauses number (record (heap_clause clauses number) { is_in_heap = mark })

-- the entry is the first, and in a heap no other is above it
abbrev pub IsTop : List (Reverse Position) → Position → Type 0
IsTop entries top = (0 < length entries) × (slice_index_or entries 0 (record { 0 = top }) ≡ record { 0 = top })
    × (IsHeap heap_cmp entries → IsUpperBound heap_cmp (record { 0 = top }) entries)

-- the clause with this number has this many groups that aren't false
abbrev pub tallied : ℕ → ℕ → List Clause → List Clause
tallied left number clauses = slice_set clauses number (record (heap_clause clauses number) { left = left })
