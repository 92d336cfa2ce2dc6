-- What a call answers its caller.
use Rattle.std.specs.Prelude.{◌≡◌, ◌⊎◌, ℕ, ◌<◌, ◌≤◌, All, List, [], ◌++◌, length}
use Rattle.call_texts.specs.Buffers.{written}
use Rattle.call_texts.specs.Versions.{Named, AreWords, places_from, text_of}
use Rattle.call_texts.specs.declared.versions.Version.{Version}
use Rattle.example_answers.specs.Answers.{best_line, header, lines_of}
use Rattle.example_answers.specs.Status.{status_of}
use Rattle.example_answers.specs.declared.outcome.Outcome.{Outcome}
use Rattle.example_answers.specs.declared.outcome.Outcome.TheVariants.{Failed, GaveUp}

-- nothing is said, since memory was refused even for that
abbrev pub IsUnsaid : Outcome → List ℕ → Type 0
IsUnsaid outcome text = (outcome ≡ GaveUp) × (text ≡ [])

-- by what each outcome says of a text: the buffer before and after, the size that is needed, and the status
pub record IsAnswered (Says : Outcome → List ℕ → Type 0) (old new : List ℕ) (needed status : ℕ) : Type 0 where
  pub outcome : Outcome
  pub text : List ℕ
  pub says : Says outcome text ⊎ IsUnsaid outcome text
  pub size : needed ≡ length text
  pub answered : needed ≤ length old → (status ≡ status_of outcome) × (new ≡ written text old)
  -- where the buffer is too small, nothing is written
  pub short : length old < needed → (status ≡ status_of Failed) × (new ≡ old)

-- of an answer that says that these are picked, these are told, where they are: the first one below the header
abbrev pub TellsPicked : List ℕ → List Version → Type 0
TellsPicked answer told =
    (named : List Named) (best_up_to wishes : ℕ) → All AreWords named
    → answer ≡ header ++ (lines_of text_of named ++ best_line best_up_to wishes)
    → told ≡ places_from (length header) named
