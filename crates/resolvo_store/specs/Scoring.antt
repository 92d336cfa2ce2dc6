-- What raising a score does to the scores and to the queue. N are the names, S the solvables, A the allocators.
use Rattle.std.specs.Prelude.{◌≡◌, ℕ, Bool}
use Rattle.id_maps.specs.Scores.{ScoreState, bumped}
use Rattle.resolvo_queue.specs.Queue.{Queue, StandsOn}
use Rattle.resolvo_queue.specs.References.{References}

-- a name's score is raised, where scored tells the scores that a map has
abbrev pub IsRaised : {N M : Type 0} → (N → N → Bool) → (M → N → ℕ) → N → ℕ → ScoreState M → ScoreState M → Type 0
IsRaised same scored name amount old new = scored new.map ≡ bumped same name amount (scored old.map)

-- whatever the old queue stood on, the new one does
abbrev pub StandsAsBefore : {N H : Type 0} → (S A : Type 0) → Queue N H → Queue N H → Type 0
StandsAsBefore {N = N} S A old new = (refs : References N S A) → StandsOn refs old → StandsOn refs new
