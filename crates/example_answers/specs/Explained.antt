-- The answer to an index, with explanations. N are the names, S the solvables, A the allocators.
use Rattle.std.specs.Prelude.{◌≡◌, ℕ, List, [], ◌∷◌, ◌++◌, Option, None, Some, Result, Ok, codes, length}
use Rattle.std.specs.Prelude.{if◌then◌else◌, nat_lt, slice_get}
use Rattle.std.specs.declared.alloc.Global.{Global}
use Rattle.index_text.specs.Index.{IndexText, index_of}
use Rattle.index_text.specs.Indexes.{NumberedWords}
use Rattle.resolvo_pool.specs.Functions.{Provider}
use Rattle.resolvo_pool.specs.Provider.{Universe}
use Rattle.resolvo_pool.specs.Texts.{Texts}
use Rattle.resolvo_pool.specs.Types.ConditionalRequirement.{ConditionalRequirement}
use Rattle.corrections.specs.Proposals.{IsForbidden, named_in, text_of_proposals}
use Rattle.report_trees.specs.Trees.{IsTreeOrReport}
use Rattle.solutions.specs.Needed.{AreCaused}
use Rattle.solutions.specs.Newest.{newest}
use Rattle.solutions.specs.declared.needed.Cause.{Cause}
use Rattle.solutions.specs.declared.needed.Cause.TheVariants.{Requested, Required, Wished}
use Rattle.solutions.specs.declared.reason.Reason.{Reason}
use Rattle.example_index.specs.Listed.{IsIndex}
use Rattle.example_index.specs.declared.index.SmallIndex.{SmallIndex}
use Rattle.example_answers.specs.Answers.{IsAnswer, IsAnswerOf, IsPicked, IsRefuted, OfIndex, best_line, header}
use Rattle.example_answers.specs.Names.{names_of}
use Rattle.example_answers.specs.Reasons.{text_of_need, text_of_solvable}
use Rattle.example_answers.specs.declared.outcome.Outcome.{Outcome}
use Rattle.example_answers.specs.declared.outcome.Outcome.TheVariants.{Picked, NoSolution, GaveUp, Unreadable, Failed}

module _ {N S : Type 0} (universe : Universe N S) (texts : Texts N S) where
  -- what the request needs
  abbrev pub text_of_requested : Option ConditionalRequirement → List ℕ
  text_of_requested None = []
  text_of_requested (Some need) = text_of_need universe texts None need

  -- whose need it is
  abbrev pub text_of_required : Option S → List ℕ
  text_of_required None = []
  text_of_required (Some parent) = text_of_solvable universe texts parent ++ codes " needs it"

  module _ (requested : List ConditionalRequirement) (picked : List S) where
    -- why something is picked
    abbrev pub text_of_cause : Cause → List ℕ
    text_of_cause (Requested place) = text_of_requested (slice_get requested place)
    text_of_cause (Wished place) = codes "wished"
    text_of_cause (Required place) = text_of_required (slice_get picked place)

    -- what is picked, and why
    abbrev pub text_of_pick : S → Cause → List ℕ
    text_of_pick solvable cause = text_of_solvable universe texts solvable ++ (codes ": " ++ text_of_cause cause)

-- a line for each solvable, with the cause at its place
abbrev pub lines_of_causes : {S : Type 0} → (S → Cause → List ℕ) → List Cause → List S → List ℕ
lines_of_causes text [] picked = []
lines_of_causes text (cause ∷ causes) [] = []
lines_of_causes text (cause ∷ causes) (s ∷ rest) = text s cause ++ (codes "\n" ++ lines_of_causes text causes rest)

-- a line for each solvable of the best solution, with its cause
pub record ExplainsSolution {N S : Type 0} (p : Provider N S) (texts : Texts N S)
    (requested : List ConditionalRequirement) (text : List ℕ) : Type 0 where
  pub picked : List S
  pub causes : List Cause
  pub best_up_to : ℕ
  pub is_picked : IsPicked p requested picked best_up_to
  pub are_causes : AreCaused p requested (newest p requested) picked causes
  pub is : text ≡ header ++ (lines_of_causes (text_of_pick p.universe texts requested picked) causes picked
      ++ best_line best_up_to (length (newest p requested)))

-- which requirements of the request can't all stay, if the reasons name several
abbrev pub text_of_conflict : {N S : Type 0} → Universe N S → Texts N S → List (Reason N S) → List ℕ
text_of_conflict universe texts reasons =
    if nat_lt 1 (length (named_in reasons)) then text_of_proposals universe texts (named_in reasons) else []

-- that there is no solution, and a report of the reasons, in which one of the names may be meant; a request with all
-- requirements that the reasons name has no solution either
pub record ReportsNoSolution {N S : Type 0} (A : Type 0) (p : Provider N S) (texts : Texts N S) (names : List N)
    (requested : List ConditionalRequirement) (text : List ℕ) : Type 0 where
  pub reasons : List (Reason N S)
  pub report : List ℕ
  pub is_refuted : IsRefuted p requested reasons
  pub is_report : IsTreeOrReport A p.universe texts p.same_name p.same_solvable p.answers names reasons report
  pub is_forbidden : IsForbidden p (named_in reasons)
  pub is : text ≡ header ++ (codes "none\n" ++ (report ++ text_of_conflict p.universe texts reasons))

-- what each outcome of a search says of the text
abbrev pub ExplainsAnswer : {N S : Type 0} → Type 0 → Provider N S → Texts N S → List N → List ConditionalRequirement →
    Outcome → List ℕ → Type 0
ExplainsAnswer A p texts names requested Picked text = ExplainsSolution p texts requested text
ExplainsAnswer A p texts names requested NoSolution text = ReportsNoSolution A p texts names requested text
ExplainsAnswer A p texts names requested GaveUp text = IsAnswer p texts requested GaveUp text
ExplainsAnswer A p texts names requested Unreadable text = ⊥
ExplainsAnswer A p texts names requested Failed text = ⊥

-- what each outcome says of the text of an answer; `said` is an index, or the number of an unreadable line
module _ {S : Type 0} (functions : SmallIndex → Provider ℕ S) (texts : SmallIndex → Texts ℕ S) where
  abbrev pub ExplainsOf : Result IndexText ℕ → Outcome → List ℕ → Type 0
  ExplainsOf said Picked text =
      OfIndex (λ index. ExplainsSolution (functions index) (texts index) index.request.items text) said
  ExplainsOf said NoSolution text =
      OfIndex (λ index. ReportsNoSolution Global (functions index) (texts index) (names_of index) index.request.items
      text) said
  ExplainsOf said GaveUp text = IsAnswerOf functions texts said GaveUp text
  ExplainsOf said Unreadable text = IsAnswerOf functions texts said Unreadable text
  ExplainsOf said Failed text = ⊥

  -- the same of an index that was read, for each text of an index that it may stand for
  abbrev pub ExplainsIndex : SmallIndex → Outcome → List ℕ → Type 0
  ExplainsIndex index outcome text = (meant : IndexText) → IsIndex index meant → ExplainsOf (Ok meant) outcome text

  -- the same of an index's lines
  abbrev pub ExplainsLines : List NumberedWords → Outcome → List ℕ → Type 0
  ExplainsLines lines = ExplainsOf (index_of lines)
