-- The answer to an index as the text of an object. N are the names, S the solvables.
use Rattle.std.specs.Prelude.{◌≡◌, ◌⊎◌, ℕ, List, [], ◌∷◌, Option, None, Some, Result, Ok, Err, codes, length, map, not}
use Rattle.std.specs.Prelude.{IfSome, is_some}
use Rattle.std.specs.Str.Lines.{lines}
use Rattle.std.specs.declared.alloc.Global.{Global}
use Rattle.index_text.specs.Diagnoses.{IsPlaceIn, is_readable, line_of}
use Rattle.index_text.specs.Expected.{IsTold}
use Rattle.index_text.specs.Index.{IndexText, index_of}
use Rattle.index_text.specs.Indexes.{NumberedWords}
use Rattle.index_text.specs.PlainLines.{plain_line}
use Rattle.index_text.specs.declared.diagnosis.Diagnosis.{Diagnosis}
use Rattle.index_text.specs.declared.line.Line.{Line}
use Rattle.resolvo_ids.specs.Types.StoreError.{StoreError}
use Rattle.resolvo_ids.specs.Types.VersionSetId.{VersionSetId}
use Rattle.resolvo_pool.specs.Functions.{Provider}
use Rattle.resolvo_pool.specs.Texts.{Texts}
use Rattle.resolvo_pool.specs.Types.ConditionalRequirement.{ConditionalRequirement}
use Rattle.serde_json.specs.Data.{Data, string}
use Rattle.serde_json.specs.Written.{compact_text}
use Rattle.solutions.specs.Newest.{newest}
use Rattle.picking.specs.Answers.{FindsNone, GivesEnough, GivesSo, PicksBest, PicksGranted, PicksNeeded, PicksNoneSpare}
use Rattle.picking.specs.Answers.{PicksRanked, PicksSolution}
use Rattle.picking.specs.declared.finding.Answer.{Answer}
use Rattle.picking.specs.declared.finding.Answer.TheVariants as Search
use Rattle.example_index.specs.Listed.{places_where}
use Rattle.example_index.specs.Notes.{is_empty_at, notes_from}
use Rattle.example_index.specs.declared.index.SmallIndex.{SmallIndex}
use Rattle.example_answers.specs.Answers.{OfIndex, first_number}
use Rattle.example_answers.specs.declared.outcome.Outcome.{Outcome}
use Rattle.example_answers.specs.declared.outcome.Outcome.TheVariants.{Picked, NoSolution, GaveUp, Unreadable}
use Rattle.example_json.specs.Objects.{answer_data, refused_data, unreadable_data}
use Rattle.example_json.specs.Values.{array_of, count_data, object_of}

-- what becomes of an index with this answer
abbrev pub outcome_of : {N S A : Type 0} → Answer N S A → Outcome
outcome_of (Search.Picked choice) = Picked
outcome_of (Search.Unsolvable refutation) = NoSolution
outcome_of (Search.Uncertified refutation) = GaveUp
outcome_of Search.StepsUsed = GaveUp
outcome_of Search.NotASolution = GaveUp

-- the version sets of an index that no version is in
abbrev pub empty_sets : SmallIndex → List VersionSetId
empty_sets index =
    map (λ place. record { 0 = place }) (places_where (is_empty_at index) (length index.pool.version_sets))

-- the notes on an index, each as a text
abbrev pub notes_data : SmallIndex → Data
notes_data index = array_of string (lines (notes_from index 20 [] (empty_sets index)))

-- which line is unreadable, and in which column, and what is said of it
abbrev pub place_data : ℕ → List ℕ → Option Diagnosis → Data
place_data number said None = object_of ((codes "line", count_data number) ∷ [])
place_data number said (Some fault) =
    object_of ((codes "column", count_data fault.column)
    ∷ (codes "line", count_data number)
    ∷ (codes "said", string said) ∷ [])

-- of an index of the input of this name that begins in this line
module _ (input : List ℕ) (line : ℕ) where
  -- the text says that memory or an id was refused
  pub record ShowsRefusal (outcome : Outcome) (text : List ℕ) : Type 0 where
    pub refused : StoreError
    pub is_outcome : outcome ≡ GaveUp
    pub is : text ≡ compact_text (refused_data input line refused)

  -- it says that the line of this number isn't in the format, and where not, unless the line alone could be read
  pub record ShowsUnreadable (given : List Line) (number : ℕ) (outcome : Outcome) (text : List ℕ) : Type 0 where
    pub diagnosis : Option Diagnosis
    pub said : List ℕ
    pub readable : not (is_some diagnosis) ≡ is_readable number (map plain_line given)
    pub place : IfSome diagnosis (IsPlaceIn (line_of number given))
    pub told : IfSome diagnosis (IsTold number (map plain_line given))
    pub is_outcome : outcome ≡ Unreadable
    pub is : text ≡ compact_text (unreadable_data input line (place_data number said diagnosis))

  -- it shows an answer of the search, which keeps what that promises
  pub record ShowsAnswer {N S : Type 0} (A : Type 0) (p : Provider N S) (texts : Texts N S)
      (requested : List ConditionalRequirement) (notes : Data) (outcome : Outcome) (text : List ℕ) : Type 0 where
    pub answer : Answer N S A
    pub solution : PicksSolution p requested answer
    pub ranks : PicksRanked p (newest p requested) answer
    pub best : PicksBest p requested (newest p requested) answer
    pub granted : PicksGranted p requested (newest p requested) answer
    pub needed : PicksNeeded p requested (newest p requested) answer
    pub none_spare : PicksNoneSpare p requested (newest p requested) answer
    pub none : FindsNone p requested answer
    pub reasons_so : GivesSo p requested answer
    pub reasons_enough : GivesEnough p answer
    pub is_outcome : outcome ≡ outcome_of answer
    pub is : text ≡ compact_text (answer_data input line notes p.universe texts answer)

  module _ {N S : Type 0} (functions : SmallIndex → Provider N S) (texts : SmallIndex → Texts N S) where
    -- it shows the answer to this index
    abbrev pub ShowsIndex : Outcome → List ℕ → SmallIndex → Type 0
    ShowsIndex outcome text index =
        ShowsAnswer Global (functions index) (texts index) index.request.items (notes_data index) outcome text

    -- the same, if nothing is refused
    abbrev pub IndexIsShown : SmallIndex → Outcome → List ℕ → Type 0
    IndexIsShown index outcome text = ShowsRefusal outcome text ⊎ ShowsIndex outcome text index

    -- it shows the answer to what these lines say: an index, or the number of an unreadable line. Memory may be refused
    -- for both
    abbrev pub ShowsOf : List Line → Result IndexText ℕ → Outcome → List ℕ → Type 0
    ShowsOf given (Ok meant) outcome text =
        ShowsRefusal outcome text ⊎ OfIndex (ShowsIndex outcome text) (Ok meant)
    ShowsOf given (Err number) outcome text =
        ShowsRefusal outcome text ⊎ ShowsUnreadable given number outcome text

module _ {N S : Type 0} (functions : SmallIndex → Provider N S) (texts : SmallIndex → Texts N S) where
  -- the same of the lines of an index
  abbrev pub ShowsLines : List ℕ → List Line → Outcome → List ℕ → Type 0
  ShowsLines input given =
      ShowsOf input (first_number (map plain_line given)) functions texts given (index_of (map plain_line given))

  -- the same of some lines of these words, in an input of some name
  pub record ShowsWords (said : List NumberedWords) (outcome : Outcome) (text : List ℕ) : Type 0 where
    pub input : List ℕ
    pub given : List Line
    pub are : map plain_line given ≡ said
    pub shows : ShowsLines input given outcome text
