-- What is printed for an input: the answers of its indexes, in turn.
use Rattle.std.specs.Prelude.{◌≡◌, ℕ, Bool, true, false, List, [], ◌∷◌, ◌++◌, Option, Result, Ok, Err, codes}
use Rattle.std.specs.Prelude.{map, max, take}
use Rattle.std.specs.Io.KnownBytes.{Appends}
use Rattle.std.specs.List.{AllZip, flat_map, fold, join_by}
use Rattle.index_text.specs.Indexes.{NumberedWords}
use Rattle.script_text.specs.Devices.{GivesUp, GoesWell}
use Rattle.script_text.specs.Output.{TakesSome}
use Rattle.example_answers.specs.Status.{status_of}
use Rattle.example_answers.specs.declared.outcome.Outcome.{Outcome}
use Rattle.example_answers.specs.declared.print_fault.PrintFault.{PrintFault}
use Rattle.example_answers.specs.declared.print_fault.PrintFault.TheVariants.{Device, Memory}

-- what an index is answered
pub record Answered : Type 0 where
  pub outcome : Outcome
  pub text : List ℕ

-- between two answers
abbrev pub empty_line : List ℕ
empty_line = codes "\n"

-- the answers, with an empty line before each but the first of all
abbrev pub printed : Bool → List Answered → List ℕ
printed true given = join_by (λ answer. answer.text) empty_line given
printed false given = flat_map (λ answer. empty_line ++ answer.text) given

-- before an answer
abbrev pub gap : Bool → List ℕ
gap true = []
gap false = empty_line

-- whether the next answer is the first of all, after an answer for each of these
abbrev pub is_first_after : {X : Type 0} → Bool → List X → Bool
is_first_after is_first [] = is_first
is_first_after is_first (x ∷ rest) = false

-- the status of the worst outcome
abbrev pub worst_status : List Answered → ℕ
worst_status given = fold max 0 (map (λ answer. status_of answer.outcome) given)

module _ (Answers : List NumberedWords → Outcome → List ℕ → Type 0) where
  -- each index has its answer, in turn
  abbrev pub AreAnswers : List (List NumberedWords) → List Answered → Type 0
  AreAnswers indexes given = AllZip (λ lines answer. Answers lines answer.outcome answer.text) indexes given

  -- the first indexes, however many, have their answers
  abbrev pub AreFirstAnswers : List (List NumberedWords) → List Answered → Type 0
  AreFirstAnswers indexes given = (count : ℕ) × AreAnswers (take count indexes) given

  -- what a writer takes: all answers, and the worst outcome is told; or, if memory is refused, the first ones; or, if
  -- the device fails, a beginning of the first ones
  abbrev pub Prints : Bool → List (List NumberedWords) → Option (List ℕ) → Result Outcome PrintFault →
      Option (List ℕ) → Type 0
  Prints is_first indexes held (Ok worst) held' =
      (given : List Answered) × AreAnswers indexes given × Appends held held' (printed is_first given)
      × (status_of worst ≡ worst_status given)
  Prints is_first indexes held (Err (Memory refused)) held' =
      (given : List Answered) × AreFirstAnswers indexes given × Appends held held' (printed is_first given)
  Prints is_first indexes held (Err (Device fault)) held' =
      (given : List Answered) × AreFirstAnswers indexes given × TakesSome held (printed is_first given) held'

module _ {W : Type 0} (writes fails : W → W → Type 0) where
  -- the writer is given up if the device's fault is told; at every other end no write and no flush failed
  abbrev pub PrintingEnds : {T : Type 0} → W → Result T PrintFault → W → Type 0
  PrintingEnds w (Err (Device fault)) w' = GivesUp writes fails w w'
  PrintingEnds w _ w' = GoesWell writes fails w w'
