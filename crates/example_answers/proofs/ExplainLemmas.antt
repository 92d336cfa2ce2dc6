-- What follows from what a search answers, for an answer with explanations.
use Rattle.std.proofs.Common.{◌≡◌, ◌<◌, ◌∙◌, ℕ, List, [], ◌∷◌, ◌++◌, Result, Ok, Err, codes, length, append-nil, ap}
use Rattle.std.proofs.Common.{arith}
use Rattle.std.proofs.Common.{append_assoc, refl, inl, inr, subst, sym}
use Rattle.example_answers.proofs.Words.{Answer, AreCaused, AreRead, best_line, Cause, Choice, ConditionalRequirement}
use Rattle.example_answers.proofs.Words.{ExplainsAnswer, ExplainsIndex, ExplainsOf, ExplainsSolution, Failed, GaveUp}
use Rattle.example_answers.proofs.Words.{Global, header, IndexFault, IndexText, IsFault, IsForbidden, IsIndex, IsPicked}
use Rattle.example_answers.proofs.Words.{IsRefuted, IsTreeOrReport, lines_of_causes, named_in, names_of, newest}
use Rattle.example_answers.proofs.Words.{NoSolution, Outcome, Picked, PicksCaused, Provider, Reason, ReportsNoSolution}
use Rattle.example_answers.proofs.Words.{SaysFault, SmallIndex, text_of_conflict, text_of_pick, Texts, Unreadable}
use Rattle.example_answers.proofs.AnswerLemmas.{in_turn}
use Rattle.example_answers.proofs.IndexLemmas.{IsSaid, of_fault}
use Rattle.picking.specs.declared.finding.Answer.TheVariants as Search
use Rattle.example_index.specs.declared.fault.IndexFault.TheVariants as Fault

-- a text that goes on with the lines of what is picked is whole if nothing is left
pub whole_without_more : {S : Type 0} (text : S → Cause → List ℕ) (causes : List Cause) (others : List S)
    (written whole : List ℕ) → length others < 1 → written ++ lines_of_causes text causes others ≡ whole
    → written ≡ whole
whole_without_more text [] others written whole none is = sym (append-nil written) ∙ is
whole_without_more text (cause ∷ causes) [] written whole none is = sym (append-nil written) ∙ is
whole_without_more text (cause ∷ causes) (s ∷ rest) written whole none is = absurd (omega arith)

-- the causes are so
pub caused_are : {N S A : Type 0} (p : Provider N S) (requested : List ConditionalRequirement) (answer : Answer N S A)
    (choice : Choice S A) → answer ≡ Search.Picked choice → PicksCaused p requested (newest p requested) answer
    → AreCaused p requested (newest p requested) choice.solvables.items choice.causes.items
caused_are p requested answer choice is caused =
    subst (λ a. PicksCaused p requested (newest p requested) a) is caused

-- the text of what is picked, and of the causes
pub explains_solution : {N S : Type 0} (p : Provider N S) (texts : Texts N S)
    (requested : List ConditionalRequirement) (picked shown : List S) (causes told : List Cause) (best_up_to wishes : ℕ)
    (text-0 text-1 text-2 text-3 : List ℕ)
    → IsPicked p requested picked best_up_to → AreCaused p requested (newest p requested) picked causes
    → wishes ≡ length (newest p requested) → shown ≡ picked → told ≡ causes
    → text-0 ≡ [] → text-1 ≡ text-0 ++ header
    → text-2 ≡ text-1 ++ lines_of_causes (text_of_pick p.universe texts requested shown) told shown
    → text-3 ≡ text-2 ++ best_line best_up_to wishes → ExplainsSolution p texts requested text-3
explains_solution p texts requested picked shown causes told best_up_to wishes text-0 text-1 text-2 text-3 is_picked
    caused all same same_causes none first second third =
    record {
      picked = picked;
      causes = causes;
      best_up_to = best_up_to;
      is_picked = is_picked;
      are_causes = caused;
      is = in_turn header (lines_of_causes (text_of_pick p.universe texts requested picked) causes picked)
          (best_line best_up_to (length (newest p requested))) text-0 text-1 text-2 text-3 none first
          (second
          ∙ ap (λ s. text-1 ++ lines_of_causes (text_of_pick p.universe texts requested s) told s) same
          ∙ ap (λ c. text-1 ++ lines_of_causes (text_of_pick p.universe texts requested picked) c picked) same_causes)
          (third ∙ ap (λ n. text-2 ++ best_line best_up_to n) all);
    }

-- the text of a report, and of a conflict
pub reports_none : {N S : Type 0} (A : Type 0) (p : Provider N S) (texts : Texts N S) (names : List N)
    (requested : List ConditionalRequirement) (reasons shown told : List (Reason N S))
    (report text-0 text-1 text-2 text-3 text-4 : List ℕ)
    → IsRefuted p requested reasons → IsForbidden p (named_in reasons) → shown ≡ reasons → told ≡ reasons
    → IsTreeOrReport A p.universe texts p.same_name p.same_solvable p.answers names shown report
    → text-0 ≡ [] → text-1 ≡ text-0 ++ header → text-2 ≡ text-1 ++ codes "none\n" → text-3 ≡ text-2 ++ report
    → text-4 ≡ text-3 ++ text_of_conflict p.universe texts told → ReportsNoSolution A p texts names requested text-4
reports_none A p texts names requested reasons shown told report text-0 text-1 text-2 text-3 text-4 is_refuted
    is_forbidden same same_told is_report none first second third fourth =
    let conflict = text_of_conflict p.universe texts in
    record {
      reasons = reasons;
      report = report;
      is_refuted = is_refuted;
      is_report =
          subst (λ r. IsTreeOrReport A p.universe texts p.same_name p.same_solvable p.answers names r report) same
          is_report;
      is_forbidden = is_forbidden;
      is = in_turn header (codes "none\n") (report ++ conflict reasons) text-0 text-1 text-2 text-4 none first second
          (fourth ∙ ap (λ t. t ++ conflict told) third ∙ append_assoc text-2 report (conflict told)
          ∙ ap (λ r. text-2 ++ (report ++ conflict r)) same_told);
    }

module _ {S : Type 0} (functions : SmallIndex → Provider ℕ S) (texts : SmallIndex → Texts ℕ S) where
  -- what a search answers to an index
  pub index_explained : (index : SmallIndex) (names : List ℕ) (outcome : Outcome) (text : List ℕ)
      → names ≡ names_of index
      → ExplainsAnswer Global (functions index) (texts index) names index.request.items outcome text
      → ExplainsIndex functions texts index outcome text
  index_explained index names Picked text same says meant is =
      record { meant = meant; index = index; says_index = refl; is_index = is; says = says }
  index_explained index names NoSolution text same says meant is = record {
    meant = meant;
    index = index;
    says_index = refl;
    is_index = is;
    says = subst (λ n. ReportsNoSolution Global (functions index) (texts index) n index.request.items text) same says;
  }
  index_explained index names GaveUp text same says meant is =
      inr (record { meant = meant; index = index; says_index = refl; is_index = is; says = says })
  index_explained index names Unreadable text same says meant is = absurd says
  index_explained index names Failed text same says meant is = absurd says

  -- what answers an index that was read answers what is said
  pub explained_of_read : (said : Result IndexText ℕ) (index : SmallIndex) (outcome : Outcome) (text : List ℕ)
      → AreRead IsSaid said (Ok index) → ExplainsIndex functions texts index outcome text
      → ExplainsOf functions texts said outcome text
  explained_of_read (Ok meant) index outcome text read says = says meant read
  explained_of_read (Err number) index outcome text read says = absurd read

  -- what a fault says answers what has it
  pub explained_of_fault : (said : Result IndexText ℕ) (fault : IndexFault) (outcome : Outcome) (text : List ℕ)
      → IsFault said fault → SaysFault fault outcome text → ExplainsOf functions texts said outcome text
  explained_of_fault said fault GaveUp text is says = of_fault functions texts said fault GaveUp text is says
  explained_of_fault said fault Unreadable text is says = of_fault functions texts said fault Unreadable text is says
  explained_of_fault said (Fault.Unreadable n) Picked text is says = absurd says
  explained_of_fault said (Fault.Unreadable n) NoSolution text is says = absurd says
  explained_of_fault said (Fault.Unreadable n) Failed text is says = absurd says
  explained_of_fault said (Fault.Refused refused) Picked text is says = absurd says
  explained_of_fault said (Fault.Refused refused) NoSolution text is says = absurd says
  explained_of_fault said (Fault.Refused refused) Failed text is says = absurd says
