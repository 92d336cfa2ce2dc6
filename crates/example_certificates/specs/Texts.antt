-- The text of a certificate. N are the names, S the solvables, A the allocators.
use Rattle.std.specs.Prelude.{ℕ, ◌+◌, ◌==◌, Bool, List, [], ◌∷◌, ◌++◌, codes, count_by, decimal, length}
use Rattle.std.specs.Prelude.{if◌then◌else◌, Option, None, Some, unwrap_or}
use Rattle.std.specs.declared.vec.Vec.{Vec}
use Rattle.resolvo_pool.specs.Provider.{Universe}
use Rattle.resolvo_pool.specs.Texts.{Texts}
use Rattle.solutions.specs.declared.package_literal.PackageLiteral.{PackageLiteral}
use Rattle.solutions.specs.declared.package_literal.PackageLiteral.TheVariants.{Picked, Held}
use Rattle.solutions.specs.declared.reason.Reason.{Reason}
use Rattle.example_answers.specs.Answers.{lines_of}
use Rattle.example_answers.specs.Reasons.{text_of_reason, text_of_set, text_of_solvable}
use Rattle.example_certificates.specs.Numbers.{Numbered}
use Rattle.example_certificates.specs.declared.part.Part.{Part}

abbrev pub is_positive : {S : Type 0} → PackageLiteral S → Bool
is_positive (Picked s value) = value
is_positive (Held set value) = value

-- how many clauses there are
abbrev pub count_in : {N S A : Type 0} → List (Part N S A) → ℕ
count_in [] = 0
count_in (part ∷ rest) = length part.clauses.items + count_in rest

module _ {S : Type 0} (number : PackageLiteral S → Option ℕ) where
  abbrev pub variable_text : PackageLiteral S → List ℕ
  variable_text literal = decimal (unwrap_or (number literal) 0)

  -- a variable, or one behind a minus
  abbrev pub literal_text : PackageLiteral S → List ℕ
  literal_text literal =
      if is_positive literal then variable_text literal ++ codes " "
      else codes "-" ++ (variable_text literal ++ codes " ")

  abbrev pub literals_text : List (PackageLiteral S) → List ℕ
  literals_text [] = []
  literals_text (literal ∷ rest) = literal_text literal ++ literals_text rest

  -- a line for each clause
  abbrev pub clause_text : List (PackageLiteral S) → List ℕ
  clause_text clause = literals_text clause ++ codes "0\n"

  abbrev pub clauses_text : {A : Type 0} → List (Vec (PackageLiteral S) A) → List ℕ
  clauses_text [] = []
  clauses_text (clause ∷ rest) = clause_text clause.items ++ clauses_text rest

  -- the learnt clauses, and the empty one
  abbrev pub learnt_text : {A : Type 0} → List (Vec (PackageLiteral S) A) → List ℕ
  learnt_text learnt =
      (codes "c learnt " ++ (decimal (length learnt + 1) ++ codes "\n")) ++ (clauses_text learnt ++ codes "0\n")

module _ {N S : Type 0} (universe : Universe N S) (texts : Texts N S) where
  -- what a literal's variable stands for
  abbrev pub meaning_text : PackageLiteral S → List ℕ
  meaning_text (Picked s value) = text_of_solvable universe texts s
  meaning_text (Held set value) = text_of_set universe texts set

  -- what clauses follow from
  abbrev pub because_text : Option (Reason N S) → List ℕ
  because_text None = codes "c by definition"
  because_text (Some reason) = codes "c because " ++ text_of_reason universe texts reason

  module _ (variables : Numbered S) where
    -- what a variable stands for
    abbrev pub variable_line : PackageLiteral S → List ℕ
    variable_line literal =
        (codes "c var " ++ (variable_text variables.number literal ++ codes " ")) ++ meaning_text literal

    abbrev pub part_text : {A : Type 0} → Part N S A → List ℕ
    part_text part =
        because_text part.because ++ (codes "\n" ++ clauses_text variables.number part.clauses.items)

    abbrev pub parts_text : {A : Type 0} → List (Part N S A) → List ℕ
    parts_text [] = []
    parts_text (part ∷ rest) = part_text part ++ parts_text rest

    -- the variables, how many there are, and how many clauses; then the clauses, each below its reason
    abbrev pub stated_text : {A : Type 0} → List (Part N S A) → List ℕ
    stated_text parts =
        lines_of variable_line variables.literals
        ++ ((codes "p cnf " ++ (decimal (length variables.literals) ++ (codes " " ++ (decimal (count_in parts)
        ++ codes "\n")))) ++ parts_text parts)

-- the whole text: the first line has the number of the request's line, and that of the certificate's lines
abbrev pub certificate_text : ℕ → List ℕ → List ℕ
certificate_text line others =
    (codes "c certificate " ++ (decimal line ++ (codes " " ++ (decimal (count_by (λ byte. byte == 10) others + 1)
    ++ codes "\n")))) ++ others
