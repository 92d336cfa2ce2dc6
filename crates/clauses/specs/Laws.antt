-- What is true of every clause.
use Rattle.std.specs.Prelude.{◌≡◌, ◌≢◌, ⊤, List, [], ◌∷◌, Option, Some, None, Contains}
use Rattle.decisions.specs.Literals.{Lit, Values}
use Rattle.clauses.specs.declared.clause.Clause.{Clause}
use Rattle.clauses.specs.Clauses.{StoredLiterals, literals_of, first_watches}

-- two different ones of these literals, or none
abbrev pub AreTwoOf : List Lit → Option (List Lit) → Type 0
AreTwoOf literals None = ⊤
AreTwoOf literals (Some watches) =
    (l : Lit) × (m : Lit) × (watches ≡ l ∷ m ∷ []) × (l ≢ m) × Contains literals l × Contains literals m

-- a new clause watches two different ones of its literals, or none
abbrev pub FirstWatchesAreTwo : (N : Type 0) → Type 0
FirstWatchesAreTwo N = (k : StoredLiterals) (now : Values) (clause : Clause N) →
    AreTwoOf (literals_of k clause) (first_watches k now clause)
