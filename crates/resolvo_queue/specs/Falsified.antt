-- Which clauses are falsified, and which of them stands first in the scan.
use Rattle.std.specs.Prelude.{◌≡◌, ◌<◌, ℕ, Bool, true, false, List, Option, None, Some, length, slice_get, IfSome}
use Rattle.resolvo_queue.specs.Types.{is_lt, TrackedClause, Universe, Values}
use Rattle.resolvo_queue.specs.Pick.Inspection.{clause_of}
use Rattle.resolvo_queue.specs.Scan.Positions.{position_cmp, is_after}
use Rattle.resolvo_queue.specs.References.{References, literals_in, references, rows_in}
use Rattle.resolvo_queue.specs.Scan.{is_falsified}
use Rattle.resolvo_queue.specs.declared.questions.FalsifiedQuestion.{FalsifiedQuestion}

-- the clause is falsified
abbrev pub is_falsified_in : {N S A : Type 0} → References N S A → Values → TrackedClause → Bool
is_falsified_in refs val c = is_falsified val (literals_in refs) (rows_in refs) (clause_of c)

-- what clauses name, as an interner knows it
abbrev pub refs_of : {N S I A : Type 0} → (I → Universe N S) → FalsifiedQuestion I A → References N S A
refs_of universe question = references (universe question.interner.now) question.lists.now question.disjunctions.now

-- the clause stands before the other one in the scan, if there is one
abbrev pub comes_first : TrackedClause → Option TrackedClause → Bool
comes_first c None = true
comes_first c (Some other) = is_lt (position_cmp c.position other.position)

-- what was found stands nowhere behind the clause
abbrev pub Covers : Option TrackedClause → TrackedClause → Type 0
Covers first c = (d : TrackedClause) × (first ≡ Some d) × (is_after d.position c.position ≡ false)

module _ (clauses : List TrackedClause) (holds : TrackedClause → Bool) where
  -- of the clauses numbered below this, the one that holds and stands first in the scan, if one holds
  pub record FindsBelow (number : ℕ) (first : Option TrackedClause) : Type 0 where
    pub found : IfSome first (λ c. (n : ℕ) × (slice_get clauses n ≡ Some c) × (holds c ≡ true))
    pub covers : (n : ℕ) (c : TrackedClause) → slice_get clauses n ≡ Some c → n < number → holds c ≡ true →
        Covers first c

  -- the same of all clauses
  abbrev pub FindsFirst : Option TrackedClause → Type 0
  FindsFirst = FindsBelow (length clauses)
