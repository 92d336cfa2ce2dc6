-- The scan of the requires clauses, and which of them are open.
pub mod First
pub mod Positions
use Rattle.std.specs.Prelude.{ℕ, Bool, not, ◌==◌, ◌&&◌, if◌then◌else◌, List, [], ◌∷◌, ◌++◌}
use Rattle.std.specs.Prelude.{map, filter, flat_map, find, fold, Option, is_some, is_none}
use Rattle.resolvo_queue.specs.Types.{is_false_literal, known_true, list_all, list_any, Lit, Requirement}
use Rattle.resolvo_queue.specs.Types.{RequiresClause, Values}
use Rattle.resolvo_queue.specs.Rows.{Row, has_true_row, frontier}

-- a parent is listed once
abbrev pub add_parent : List ℕ → ℕ → List ℕ
add_parent seen parent = if list_any (λ p. p == parent) seen then seen else seen ++ parent ∷ []

-- the parents in the order of their first registrations
abbrev pub parents : List RequiresClause → List ℕ
parents cs = fold add_parent [] (map (λ c. c.parent) cs)

-- the clauses of a parent, in order
abbrev pub clauses_of : List RequiresClause → ℕ → List RequiresClause
clauses_of cs parent = filter (λ c. c.parent == parent) cs

-- for each parent, in the order of first registration, its clauses
abbrev pub scan : List RequiresClause → List RequiresClause
scan cs = flat_map (clauses_of cs) (parents cs)

-- all literals of a condition are false, so that it holds
abbrev pub are_literals_false : Values → List Lit → Bool
are_literals_false val literals = list_all (is_false_literal val) literals

module _ (val : Values) (literals_of : Option ℕ → List Lit) (rows_of : Requirement → List Row) where
  -- the parent is true, the literals of the condition are false, and no row is true
  abbrev pub is_open : RequiresClause → Bool
  is_open c = known_true (val c.parent) &&
      (are_literals_false val (literals_of c.condition) && not (has_true_row val (rows_of c.requirement)))

  -- open, with an undecided row
  abbrev pub is_eligible : RequiresClause → Bool
  is_eligible c = is_open c && is_some (frontier val (rows_of c.requirement))

  -- open, with none
  abbrev pub is_falsified : RequiresClause → Bool
  is_falsified c = is_open c && is_none (frontier val (rows_of c.requirement))

  -- the first falsified clause of the scan
  abbrev pub first_falsified : List RequiresClause → Option RequiresClause
  first_falsified cs = find is_falsified (scan cs)
