-- The answer to an index. N are the names, S the solvables.
use Rattle.std.specs.Prelude.{◌≡◌, ◌⊎◌, ℕ, All, List, [], ◌∷◌, ◌++◌, Result, Ok, Err, codes, decimal, length, nat_lt}
use Rattle.std.specs.Prelude.{if◌then◌else◌, take}
use Rattle.index_text.specs.Index.{IndexText, index_of}
use Rattle.index_text.specs.Indexes.{NumberedWords, indexes_of}
use Rattle.resolvo_ids.specs.Types.StoreError.{StoreError}
use Rattle.resolvo_pool.specs.Functions.{Provider}
use Rattle.resolvo_pool.specs.Texts.{Texts}
use Rattle.resolvo_pool.specs.Types.ConditionalRequirement.{ConditionalRequirement}
use Rattle.solutions.specs.Needed.{IsNeeded}
use Rattle.solutions.specs.Newest.{newest}
use Rattle.solutions.specs.Reasons.{AreEnough, AreSo}
use Rattle.solutions.specs.Solutions.{IsSolution, IsUnsolvable}
use Rattle.solutions.specs.Wishes.{IsBest, NoneSpare}
use Rattle.solutions.specs.declared.reason.Reason.{Reason}
use Rattle.example_index.specs.Listed.{IsIndex}
use Rattle.example_index.specs.declared.index.SmallIndex.{SmallIndex}
use Rattle.example_answers.specs.Reasons.{text_of_reason}
use Rattle.example_answers.specs.Refusals.{words_of}
use Rattle.example_answers.specs.declared.outcome.Outcome.{Outcome}
use Rattle.example_answers.specs.declared.outcome.Outcome.TheVariants.{Picked, NoSolution, GaveUp, Unreadable, Failed}

-- a line for each of these
abbrev pub lines_of : {S : Type 0} → (S → List ℕ) → List S → List ℕ
lines_of text [] = []
lines_of text (s ∷ rest) = text s ++ (codes "\n" ++ lines_of text rest)

-- the first line
abbrev pub header : List ℕ
header = codes "request:\n"

-- a solution with nothing spare, which is the best one by this number of the request's first wishes for newest versions
pub record IsPicked {N S : Type 0} (p : Provider N S) (requested : List ConditionalRequirement) (picked : List S)
    (best_up_to : ℕ) : Type 0 where
  pub solution : IsSolution p requested picked
  pub best : IsBest p requested (take best_up_to (newest p requested)) picked
  pub needed : All (IsNeeded p requested (newest p requested) picked) picked
  pub none_spare : NoneSpare p requested (newest p requested) picked

-- the number of first wishes by which what is picked is the best, and that of all wishes; nothing if they are equal
abbrev pub best_line : ℕ → ℕ → List ℕ
best_line best_up_to wishes =
    if nat_lt best_up_to wishes
    then codes "the best by the first "
    ++ (decimal best_up_to ++ (codes " of " ++ (decimal wishes ++ codes " wishes\n")))
    else []

-- a line for each solvable of the best solution
pub record SaysSolution {N S : Type 0} (p : Provider N S) (texts : Texts N S) (requested : List ConditionalRequirement)
    (text : List ℕ) : Type 0 where
  pub picked : List S
  pub best_up_to : ℕ
  pub is_picked : IsPicked p requested picked best_up_to
  pub is : text ≡ header ++ (lines_of texts.solvable picked ++ best_line best_up_to (length (newest p requested)))

-- there is no solution: these reasons are so, and no choice of versions meets them all
pub record IsRefuted {N S : Type 0} (p : Provider N S) (requested : List ConditionalRequirement)
    (reasons : List (Reason N S)) : Type 0 where
  pub none : IsUnsolvable p requested
  pub are_so : AreSo p requested reasons
  pub are_enough : AreEnough p reasons

-- that there is no solution, and a line for each of the reasons
pub record SaysNoSolution {N S : Type 0} (p : Provider N S) (texts : Texts N S)
    (requested : List ConditionalRequirement) (text : List ℕ) : Type 0 where
  pub reasons : List (Reason N S)
  pub is_refuted : IsRefuted p requested reasons
  pub is : text ≡ header ++ (codes "none\n" ++ lines_of (text_of_reason p.universe texts) reasons)

-- why a search gave up
pub data Ending (N S : Type 0) : Type 0 where
  TooManySteps : Ending N S
  NotASolution : Ending N S
  NotShown : (reasons : List (Reason N S)) → Ending N S

abbrev pub ending_text : {N S : Type 0} → Provider N S → Texts N S → Ending N S → List ℕ
ending_text p texts TooManySteps = codes "gave up: too many steps\n"
ending_text p texts NotASolution = codes "gave up: what was found is no solution\n"
ending_text p texts (NotShown reasons) =
    codes "gave up: that there is no solution isn't shown\n" ++ lines_of (text_of_reason p.universe texts) reasons

-- that the search gave up: no version is named as picked
abbrev pub SaysEnding : {N S : Type 0} → Provider N S → Texts N S → List ℕ → Type 0
SaysEnding {N} {S} p texts text = (ending : Ending N S) × (text ≡ header ++ ending_text p texts ending)

-- what each outcome of a search says of the text
abbrev pub IsAnswer : {N S : Type 0} → Provider N S → Texts N S → List ConditionalRequirement → Outcome → List ℕ →
    Type 0
IsAnswer p texts requested Picked text = SaysSolution p texts requested text
IsAnswer p texts requested NoSolution text = SaysNoSolution p texts requested text
IsAnswer p texts requested GaveUp text = SaysEnding p texts text
IsAnswer p texts requested Unreadable text = ⊥
IsAnswer p texts requested Failed text = ⊥

-- which line isn't in the format
abbrev pub unreadable_text : ℕ → List ℕ
unreadable_text number = codes "line " ++ (decimal number ++ codes " unreadable\n")

-- what was refused, as memory or an id
abbrev pub refused_text : StoreError → List ℕ
refused_text refused = codes "gave up: " ++ (words_of refused ++ codes "\n")

-- that something was refused: no version is named
abbrev pub SaysRefused : List ℕ → Type 0
SaysRefused text = (refused : StoreError) × (text ≡ refused_text refused)

-- the number of the first line
abbrev pub first_number : List NumberedWords → ℕ
first_number [] = 1
first_number (line ∷ rest) = line.number

-- what the one index of a text says. Without an index line 1 is unreadable; of several the second one's first line is
abbrev pub index_of_one : List (List NumberedWords) → Result IndexText ℕ
index_of_one [] = Err 1
index_of_one (lines ∷ []) = index_of lines
index_of_one (lines ∷ next ∷ rest) = Err (first_number next)

-- what a text says
abbrev pub index_in : List ℕ → Result IndexText ℕ
index_in text = index_of_one (indexes_of text)

-- an index is said, and this is so of one that answers what is said
pub record OfIndex (Says : SmallIndex → Type 0) (said : Result IndexText ℕ) : Type 0 where
  pub meant : IndexText
  pub index : SmallIndex
  pub says_index : said ≡ Ok meant
  pub is_index : IsIndex index meant
  pub says : Says index

-- what each outcome says of the text that answers what is said: an index, or the number of an unreadable line. Memory
-- may be refused for each of them
module _ {N S : Type 0} (functions : SmallIndex → Provider N S) (texts : SmallIndex → Texts N S) where
  abbrev pub IsAnswerOf : Result IndexText ℕ → Outcome → List ℕ → Type 0
  IsAnswerOf said Picked text =
      OfIndex (λ index. SaysSolution (functions index) (texts index) index.request.items text) said
  IsAnswerOf said NoSolution text =
      OfIndex (λ index. SaysNoSolution (functions index) (texts index) index.request.items text) said
  IsAnswerOf said GaveUp text =
      SaysRefused text ⊎ OfIndex (λ index. SaysEnding (functions index) (texts index) text) said
  IsAnswerOf said Unreadable text = (number : ℕ) × (said ≡ Err number) × (text ≡ unreadable_text number)
  IsAnswerOf said Failed text = ⊥

  -- the same of an index that was read, whatever it is of
  abbrev pub AnswersIndex : SmallIndex → Outcome → List ℕ → Type 0
  AnswersIndex index outcome text = (meant : IndexText) → IsIndex index meant → IsAnswerOf (Ok meant) outcome text

  -- the same of an index's lines
  abbrev pub AnswersLines : List NumberedWords → Outcome → List ℕ → Type 0
  AnswersLines lines = IsAnswerOf (index_of lines)

  -- the same of a text
  abbrev pub AnswersText : List ℕ → Outcome → List ℕ → Type 0
  AnswersText text = IsAnswerOf (index_in text)
