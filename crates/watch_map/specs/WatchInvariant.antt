-- The invariant of watched literals: a watch that is false stands beside one that is true. While the trail is
-- propagated it holds of what the entries before a place make false, with the values by all entries.
use Rattle.std.specs.Prelude.{◌≡◌, ℕ, Bool, true, false, not, ◌&&◌, if◌then◌else◌, List, take, Some}
use Rattle.std.specs.List.{list_any}
use Rattle.decisions.specs.Literals.{Lit, Pos, Neg, Values, truth, known_true, is_false_literal}
use Rattle.decisions.specs.declared.decision.Decision.{Decision}
use Rattle.decisions.specs.Trail.{Entry, val}
use Rattle.clauses.specs.Clauses.{same_literal}
use Rattle.watch_map.specs.Watching.{is_literal_in, is_clause_in}

-- ---- values

-- the later values have what the earlier ones have
pub record Extends (earlier later : Values) : Type 0 where
  pub kept : (x : ℕ) (b : Bool) → earlier x ≡ Some b → later x ≡ Some b

-- the values by the entries before a place
abbrev pub val_before : ℕ → List Entry → Values
val_before place entries = val (take place entries)

-- the literal that a decision makes false
abbrev pub refuted_literal : Decision → Lit
refuted_literal d = if d.value then Neg d.variable else Pos d.variable

abbrev pub is_true_literal : Values → Lit → Bool
is_true_literal now l = known_true (truth now l)

-- whether a clause of these literals is true: one of them is
abbrev pub is_true : Values → List Lit → Bool
is_true now literals = list_any (is_true_literal now) literals

-- ---- watches

-- whether, of the literals that a clause watches, another than this one is true: then this watch is satisfied
abbrev pub has_true_beside : Values → List Lit → Lit → Bool
has_true_beside now watched l = list_any (λ m. not (same_literal m l) && is_true_literal now m) watched

-- each watch that was false before is satisfied now
abbrev pub AreWatchesSatisfied : Values → Values → (ℕ → List Lit) → Type 0
AreWatchesSatisfied before now watched =
    (c : ℕ) (l : Lit) → is_literal_in l (watched c) ≡ true → is_false_literal before l ≡ true
    → has_true_beside now (watched c) l ≡ true

-- what was false by earlier values than these, and satisfied by such, is satisfied where clauses watch other literals
abbrev pub KeepWatchesSatisfied : Values → (ℕ → List Lit) → (ℕ → List Lit) → Type 0
KeepWatchesSatisfied now watched watched' = (before seen : Values) → Extends before now → Extends seen now
    → AreWatchesSatisfied before seen watched → AreWatchesSatisfied before seen watched'

-- each watch of this literal is satisfied, but for the clauses that its walk is yet to visit
abbrev pub AreWatchesSatisfiedBut : List ℕ → Lit → Values → (ℕ → List Lit) → Type 0
AreWatchesSatisfiedBut ahead l now watched = (c : ℕ) → is_literal_in l (watched c) ≡ true → is_clause_in c ahead ≡ false
    → has_true_beside now (watched c) l ≡ true
