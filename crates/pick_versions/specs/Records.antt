-- What is recorded of an index without a solution.
use Rattle.std.specs.Prelude.{◌≡◌, ℕ, List, Option, None, Some, ⊤}
use Rattle.example_answers.specs.declared.outcome.Outcome.{Outcome}
use Rattle.example_answers.specs.declared.outcome.Outcome.TheVariants.{NoSolution}
use Rattle.resolvo_pool.specs.Texts.{IsContinuedBy}
use Rattle.pick_versions.specs.declared.records.Record.{Record}

-- where there is a record, it is of the same file, and its text goes on by one of this kind
abbrev pub IsAdded : Option Record → Option Record → (List ℕ → Type 0) → Type 0
IsAdded None None IsText = ⊤
IsAdded (Some old) (Some new) IsText = (new.file ≡ old.file) × IsContinuedBy old.text new.text IsText
IsAdded _ _ IsText = ⊥

-- the same of an index that has no solution; of another one nothing is recorded
abbrev pub IsRecorded : Outcome → Option Record → Option Record → (List ℕ → Type 0) → Type 0
IsRecorded NoSolution old new IsText = IsAdded old new IsText
IsRecorded outcome old new IsText = new ≡ old
