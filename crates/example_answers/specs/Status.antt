-- The number of what became of an index, which is higher the worse it went.
use Rattle.std.specs.Prelude.{ℕ}
use Rattle.example_answers.specs.declared.outcome.Outcome.{Outcome}
use Rattle.example_answers.specs.declared.outcome.Outcome.TheVariants.{Picked, NoSolution, GaveUp, Unreadable, Failed}

abbrev pub status_of : Outcome → ℕ
status_of Picked = 0
status_of NoSolution = 1
status_of GaveUp = 2
status_of Unreadable = 3
status_of Failed = 4
