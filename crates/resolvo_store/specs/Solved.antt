-- What a search is after. N are the names, S the solvables.
use Rattle.std.specs.Prelude.{◌≡◌, true, All}
use Rattle.decisions.specs.Literals.{known_true}
use Rattle.resolvo_queue.specs.Rows.{has_true_row}
use Rattle.resolvo_queue.specs.Scan.{are_literals_false}
use Rattle.resolvo_store.specs.Store.{Store, values, condition_of, rows_of}

-- each registered clause whose parent is true, and whose condition is met, has a candidate that is true
abbrev pub IsSolved : {N S : Type 0} → Store N S → Type 0
IsSolved st = All (λ c. known_true (values st c.parent) ≡ true →
    are_literals_false (values st) (condition_of st c.condition) ≡ true
    → has_true_row (values st) (rows_of st c.requirement) ≡ true) st.requires
