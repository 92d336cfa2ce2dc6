-- What the rows of a requirement come to.
use Rattle.std.specs.Prelude.{ℕ, ◌+◌, Bool, true, false, ◌==◌, if◌then◌else◌, List, fold, Option, None, Some}
use Rattle.resolvo_queue.specs.Types.{Frontier, Values}
use Rattle.resolvo_queue.specs.declared.row_state.RowState.{RowState}
use Rattle.resolvo_queue.specs.declared.row_state.RowState.TheVariants.{Satisfied, Undecided, AllFalse}
use Rattle.resolvo_queue.specs.Rows.{Row, has_true_row, frontier}

-- where no row is true, by the frontier
abbrev pub unmet_state : Option Frontier → RowState
unmet_state None = AllFalse
unmet_state (Some f) = Undecided f

-- met by a true row, else by the frontier
abbrev pub state_of : Values → List Row → RowState
state_of val rs = if has_true_row val rs then Satisfied else unmet_state (frontier val rs)

-- how many rows a state has counted
abbrev pub counted : RowState → ℕ
counted Satisfied = 0
counted (Undecided f) = f.count
counted AllFalse = 0

-- the state once there is an undecided row more
abbrev pub with_undecided : RowState → Row → RowState
with_undecided Satisfied row = Satisfied
with_undecided (Undecided f) row =
    Undecided (record { variable = f.variable; set = f.set; count = f.count + (if row.set.0 == f.set.0 then 1 else 0) })
with_undecided AllFalse row = Undecided (record { variable = row.variable; set = row.set; count = 1 })

-- the state once there is a row more, by the value of its variable
abbrev pub with_row : RowState → Option Bool → Row → RowState
with_row state (Some true) row = Satisfied
with_row state (Some false) row = state
with_row state None row = with_undecided state row

-- the state once there are these rows more
abbrev pub with_rows : Values → RowState → List Row → RowState
with_rows val state rs = fold (λ s row. with_row s (val row.variable) row) state rs
