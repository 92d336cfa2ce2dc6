-- What a walk leaves.
use Rattle.std.specs.Prelude.{◌≡◌, ℕ, List, [], ◌∷◌, ◌++◌, Option, Some, None}
use Rattle.decisions.specs.Literals.{Lit}

-- the clause in front of others, if it keeps its watch
abbrev pub with_staying : Option Lit → ℕ → List ℕ → List ℕ
with_staying None clause clauses = clause ∷ clauses
with_staying (Some to) clause clauses = clauses

-- the clauses that keep their watch, in order
abbrev pub staying : (ℕ → Option Lit) → List ℕ → List ℕ
staying choice [] = []
staying choice (clause ∷ clauses) = with_staying (choice clause) clause (staying choice clauses)

-- what one list begins with
abbrev pub IsBeginning : List ℕ → List ℕ → Type 0
IsBeginning front all = (back : List ℕ) × (all ≡ front ++ back)
