-- What an incremental queue keeps true, at its tracked clauses and records.
use Rattle.std.specs.Prelude.{◌≡◌, ◌≤◌, ◌⊎◌, ℕ, nat_lt, Bool, true, false, not, ◌==◌, ◌&&◌, if◌then◌else◌, List, []}
use Rattle.std.specs.Prelude.{◌∷◌, Some, None, is_some, slice_get, IfSome}
use Rattle.resolvo_queue.specs.Types.{condition_literals, Decision, Disjunction, known_true, list_any, Lit, Requirement}
use Rattle.resolvo_queue.specs.Types.{stored_in, TrackedClause, Values, variable_of}
use Rattle.resolvo_queue.specs.Rows.{Row, frontier}
use Rattle.resolvo_queue.specs.Rows.ByVariable.{list_at}
use Rattle.resolvo_queue.specs.Members.{Stands}
use Rattle.resolvo_queue.specs.Occurrences.{listing}
use Rattle.resolvo_queue.specs.Routing.Noted.{has_noted, is_noted, IsConditionOf}
use Rattle.resolvo_queue.specs.Routing.Possible.{SameElsewhere, is_possible}
use Rattle.resolvo_queue.specs.Scan.{are_literals_false}
use Rattle.resolvo_queue.specs.Parts.{AreWokenUnder, Queued, IsQueued}
use Rattle.resolvo_queue.specs.Parts.{Record, known_at, clauses_at, rows_at}
use Rattle.resolvo_queue.specs.declared.tracked_clauses.TrackedClauses.{TrackedClauses}

-- the value of each variable by a trail: that of its decision, undecided if there is none
abbrev pub values_of : List Decision → Values
values_of [] x = None
values_of (d ∷ ds) x = if d.variable == x then Some d.value else values_of ds x

-- the variable is among these
abbrev pub is_among : List ℕ → ℕ → Bool
is_among variables x = list_any (λ v. v == x) variables

-- the rows of what is known are listed
abbrev pub ListsKnown : (Requirement → List Row) → (ℕ → List Requirement) → List Record → Type 0
ListsKnown rows_of listing ts = (k : ℕ) (t : Record) → slice_get ts k ≡ Some t → is_some t.walk ≡ true →
    (row : Row) → Stands row (rows_of t.requirement) → Stands t.requirement (listing row.variable)

module _ (clauses : List TrackedClause) (literals : TrackedClause → List Lit) where
  -- the condition of each registered clause is found by each of its variables
  abbrev pub FindsConditions : List (List ℕ) → Type 0
  FindsConditions conditions =
      (n : ℕ) (c : TrackedClause) → slice_get clauses n ≡ Some c → (l : Lit) → Stands l (literals c) →
      IsConditionOf (list_at conditions (variable_of l)) c.condition

  -- each registered clause is found by its parent and by its requirement, and its condition by each of its variables
  pub record FindsAll (by_parent by_variable : List (List ℕ)) (ts : List Record) : Type 0 where
    pub parents : (n : ℕ) (c : TrackedClause) → slice_get clauses n ≡ Some c → Stands n (list_at by_parent c.parent)
    pub conditions : FindsConditions by_variable
    pub requirements : (n : ℕ) (c : TrackedClause) → slice_get clauses n ≡ Some c → Stands n (clauses_at ts c.record)

  -- at the values of a sync: who may be eligible is queued, and what is known is right
  pub record KeepsQueued (rows_of : Requirement → List Row) (val : Values) (counted : TrackedClause → Bool)
      (ts : List Record) (q : Queued) : Type 0 where
    pub queued : (n : ℕ) (c : TrackedClause) → slice_get clauses n ≡ Some c →
        is_possible literals counted val (known_at ts) c ≡ true → IsQueued q c
    pub right : (k : ℕ) → IfSome (known_at ts k) (λ f. f ≡ frontier val (rows_at rows_of ts k))

-- the clause was woken, its parent is true, and its condition isn't noted
abbrev pub counts : Values → (woken : ℕ) → (noted : List ℕ) → TrackedClause → Bool
counts val woken noted c =
    nat_lt c.position.number woken && (known_true (val c.parent) && not (has_noted noted c.condition))

-- a queue whose clauses below a number are woken, and that was synced at earlier values, is synced at those of now,
-- whatever the literals and the rows are, if the values differ at routed variables alone; anew, it is whatever it was
abbrev pub SyncsTo : (clauses : List TrackedClause) (by_parent conditions : List (List ℕ))
    (listing : ℕ → List Requirement) (woken : ℕ) (anew : Bool) (before now : Values) (routed : List ℕ)
    (ts ts' : List Record) (q q' : Queued) (noted noted' : List ℕ) → Type 0
SyncsTo clauses by_parent conditions listing woken anew before now routed ts ts' q q' noted noted' =
    (literals : TrackedClause → List Lit) (rows_of : Requirement → List Row) →
    FindsAll clauses literals by_parent conditions ts → ListsKnown rows_of listing ts →
    (anew ≡ false → SameElsewhere (is_among routed) before now
    × KeepsQueued clauses literals rows_of before (counts before woken noted) ts q) →
    KeepsQueued clauses literals rows_of now (counts now woken noted') ts' q'

-- so is what a queue keeps, from the trail of its last sync on
abbrev pub SyncsTracked : {A : Type 0} (woken : ℕ) (anew : Bool) (now : Values) (routed : List ℕ)
    (old new : TrackedClauses A) → Type 0
SyncsTracked woken anew now routed old new =
    SyncsTo old.index.clauses.items old.index.by_parent old.index.conditions (listing old.occurrences) woken anew
    (values_of old.trail.items) now routed old.requirements new.requirements old.queued new.queued old.noted new.noted

-- every clause from a number on with a true parent is queued
abbrev pub AllWokenFrom : (first : ℕ) → List TrackedClause → Values → Queued → Type 0
AllWokenFrom first clauses val q = (n : ℕ) (c : TrackedClause) → slice_get clauses n ≡ Some c → first ≤ n →
    known_true (val c.parent) ≡ true → IsQueued q c

module _ {A : Type 0} (clauses : List TrackedClause) (disjunctions : List (Disjunction A)) (val : Values) where
  -- if the condition is met, its clauses with a true parent are queued
  abbrev pub WakesIfMet : ℕ → Queued → Type 0
  WakesIfMet d q = are_literals_false val (condition_literals (stored_in [] [] disjunctions) (Some d)) ≡ true →
      AreWokenUnder clauses val d q

  -- of the conditions that were noted, one still is, or it was settled so
  abbrev pub Settles : (noted noted' : List ℕ) → Queued → Type 0
  Settles noted noted' q = (d : ℕ) → is_noted noted d ≡ true → (is_noted noted' d ≡ true) ⊎ WakesIfMet d q
