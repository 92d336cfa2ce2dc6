-- The scan as a list of numbered clauses, and where clauses stand in it.
use Rattle.std.specs.Prelude.{ℕ, suc, ◌==◌, if◌then◌else◌, List, [], ◌∷◌, map, filter, flat_map, fold}
use Rattle.resolvo_queue.specs.Types.{Position, RequiresClause}
use Rattle.resolvo_queue.specs.Scan.{add_parent}

module _ {C : Type 0} (parent : C → ℕ) where
  -- each clause with its number, from i on
  abbrev pub numbered : ℕ → List C → List (ℕ × C)
  numbered i [] = []
  numbered i (c ∷ cs) = (i, c) ∷ numbered (suc i) cs

  -- the number of a parent's first clause, from i on
  abbrev pub first_from : ℕ → List C → ℕ → ℕ
  first_from i [] p = i
  first_from i (c ∷ cs) p = if parent c == p then i else first_from (suc i) cs p

  -- the numbered clauses of a parent
  abbrev pub numbered_of : List C → ℕ → List (ℕ × C)
  numbered_of cs p = filter (λ x. parent x.1 == p) (numbered 0 cs)

  -- the parents in the order of their first clauses
  abbrev pub parents_in : List C → List ℕ
  parents_in cs = fold add_parent [] (map parent cs)

  -- for each parent, in the order of the first clauses, its numbered clauses
  abbrev pub numbered_scan : List C → List (ℕ × C)
  numbered_scan cs = flat_map (numbered_of cs) (parents_in cs)

  -- a numbered clause's position: the number of its parent's first clause, then its own
  abbrev pub position_in : {K : Type 0} → (ℕ → ℕ → K) → List C → ℕ × C → K
  position_in make cs x = make (first_from 0 cs (parent x.1)) x.0

module _ (clauses : List RequiresClause) where
  -- the number of a parent's first clause; that of the next clause if the parent has none
  abbrev pub first_of : (parent : ℕ) → ℕ
  first_of = first_from (λ (c : RequiresClause). c.parent) 0 clauses

  -- where the clause with a number stands: by its parent's first clause, then by the number
  abbrev pub position_at : (number : ℕ) → RequiresClause → Position
  position_at number c = record { first_of_parent = first_of c.parent; number = number }
