-- What the inspection of a clause finds, and how a visit ends.
use Rattle.std.specs.Prelude.{◌≡◌, ℕ, ◌<◌, Bool, true, false, not, ◌&&◌, List, [], All}
use Rattle.decisions.specs.Literals.{Lit, Values, is_false_literal}
use Rattle.clauses.specs.Clauses.{same_literal}
use Rattle.clauses.specs.Stored.{stored_in}
use Rattle.watch_map.specs.Watching.{is_literal_in, AreTwoOrNone}
use Rattle.watch_map.specs.Implication.{is_false, is_unit, IsSettled}
use Rattle.watch_map.specs.Saturation.{literals_from, AreOwn}
use Rattle.watch_map.specs.WatchInvariant.{has_true_beside, is_true}
use Rattle.watch_map.specs.declared.saturation.input.SaturationInput.{SaturationInput}
use Rattle.watch_map.specs.declared.saturation.unwatched.Finding.{Finding}
use Rattle.watch_map.specs.declared.saturation.unwatched.Finding.TheVariants as Found
use Rattle.watch_map.specs.declared.saturation.visit.Inspection.{Inspection}
use Rattle.watch_map.specs.declared.saturation.visit.Inspection.TheVariants as Seen
use Rattle.watch_map.specs.declared.saturation.visit.VisitOutcome.{VisitOutcome}
use Rattle.watch_map.specs.declared.saturation.visit.VisitOutcome.TheVariants as Ends

-- the literals of a clause, by the input of a saturation
abbrev pub literals_at : {N A : Type 0} → SaturationInput N A → ℕ → List Lit
literals_at g = literals_from (stored_in g.learnt.now g.lists.now g.disjunctions.now) g.clauses.now

-- ---- a clause that watches two literals

-- it watches two different ones of its own literals, or none
pub record IsWatching (literals watched : List Lit) : Type 0 where
  pub two : AreTwoOrNone watched
  pub own : AreOwn literals watched

-- whether a clause that watches two literals may watch this one too: it is neither of them, and not false
abbrev pub may_watch : Values → Lit → Lit → Lit → Bool
may_watch now a b l = not (same_literal l b) && not (same_literal l a) && not (is_false_literal now l)

-- the clause may watch this literal: it is one of its own, unwatched, and not false
pub record MayWatch (now : Values) (literals watched : List Lit) (l : Lit) : Type 0 where
  pub own : is_literal_in l literals ≡ true
  pub unwatched : is_literal_in l watched ≡ false
  pub not_false : is_false_literal now l ≡ false

-- the clause is unit: only this literal is left, which it watches beside the false one
pub record ImpliesOther (now : Values) (literals watched : List Lit) (falsified l : Lit) : Type 0 where
  pub implied : is_unit now literals l ≡ true
  pub watch : is_literal_in l watched ≡ true
  pub other : same_literal l falsified ≡ false

-- over the values, the clause's literals, those that it watches, and the watch that is false
abbrev pub IsInspection : Values → List Lit → List Lit → Lit → Inspection → Type 0
IsInspection now literals watched falsified Seen.Satisfied = has_true_beside now watched falsified ≡ true
IsInspection now literals watched falsified (Seen.Moves l) = MayWatch now literals watched l
IsInspection now literals watched falsified (Seen.Unit l) = ImpliesOther now literals watched falsified l
IsInspection now literals watched falsified Seen.Conflict = is_false now literals ≡ true

abbrev pub IsVisit : Values → List Lit → List Lit → Lit → VisitOutcome → Type 0
IsVisit now literals watched falsified Ends.Satisfied = has_true_beside now watched falsified ≡ true
IsVisit now literals watched falsified (Ends.Moves l) = MayWatch now literals watched l
IsVisit now literals watched falsified Ends.Conflict = is_false now literals ≡ true

-- ---- a clause that watches nothing

-- over the values and the clause's literals
abbrev pub IsFinding : Values → List Lit → Finding → Type 0
IsFinding now literals Found.Settled = IsSettled now literals
IsFinding now literals (Found.Unit l) = is_unit now literals l ≡ true
IsFinding now literals Found.Conflict = is_false now literals ≡ true

-- these clauses are settled
abbrev pub AreAllSettled : (ℕ → List Lit) → List ℕ → Values → Type 0
AreAllSettled literals ids now = All (λ c. IsSettled now (literals c)) ids

-- these are true
abbrev pub AreAllTrue : (ℕ → List Lit) → List ℕ → Values → Type 0
AreAllTrue literals ids now = All (λ c. is_true now (literals c) ≡ true) ids

-- those below the bound that watch nothing are settled
abbrev pub AreUnwatchedSettled : (ℕ → List Lit) → (ℕ → List Lit) → ℕ → Values → Type 0
AreUnwatchedSettled literals watched clauses now = (c : ℕ) → c < clauses → watched c ≡ [] → IsSettled now (literals c)

-- each of them is true, and so stays settled whatever entries come
abbrev pub AreUnwatchedTrue : (ℕ → List Lit) → (ℕ → List Lit) → ℕ → Values → Type 0
AreUnwatchedTrue literals watched clauses now =
    (c : ℕ) → c < clauses → watched c ≡ [] → is_true now (literals c) ≡ true
