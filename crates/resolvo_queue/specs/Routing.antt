-- What routing variables leaves: who is queued, and of which requirements nothing is known any more.
pub mod Noted
pub mod Possible
pub mod Synced
use Rattle.std.specs.Prelude.{◌≡◌, ℕ, ◌⊎◌, ◌++◌, true, List, Some, None, is_some, option_map, drop, map, slice_get}
use Rattle.resolvo_queue.specs.Types.{Decision, Requirement, TrackedClause, Values, values_in}
use Rattle.resolvo_queue.specs.Rows.ByVariable.{list_at}
use Rattle.resolvo_queue.specs.Occurrences.{Listed, listing}
use Rattle.resolvo_queue.specs.Members.{Stands}
use Rattle.resolvo_queue.specs.Parts.{Queued, GrowsBy, IsOfClause, AreWoken}
use Rattle.resolvo_queue.specs.Parts.{Record, known_at, clauses_at, IsPlaceOf, forgotten}
use Rattle.resolvo_queue.specs.Routing.Noted.{AreNoted}
use Rattle.resolvo_queue.specs.declared.clause_index.ClauseIndex.{ClauseIndex}
use Rattle.resolvo_queue.specs.declared.routing.Routing.{Routing}

-- records stay, but that nothing may be known of their rows any more
abbrev pub OnlyForgets : List Record → List Record → Type 0
OnlyForgets old now =
    (k : ℕ) → (slice_get now k ≡ slice_get old k) ⊎ (slice_get now k ≡ option_map forgotten (slice_get old k))

-- nothing is known of these requirements' rows
abbrev pub AreUnknown : List Requirement → List Record → Type 0
AreUnknown rs ts = (r : Requirement) → Stands r rs → (k : ℕ) → IsPlaceOf ts r k → known_at ts k ≡ None

-- the records of all other requirements stay
abbrev pub ForgetsAmong : List Requirement → List Record → List Record → Type 0
ForgetsAmong rs old now =
    (k : ℕ) (t : Record) → slice_get old k ≡ Some t → (Stands t.requirement rs → ⊥) → slice_get now k ≡ Some t

-- the records of requirements that list none of the variables stay
abbrev pub Unrouted : (ℕ → List Requirement) → List ℕ → List Record → List Record → Type 0
Unrouted listing variables old now = (k : ℕ) (t : Record) → slice_get old k ≡ Some t →
    ((v : ℕ) → Stands v variables → Stands t.requirement (listing v) → ⊥) → slice_get now k ≡ Some t

-- what variables are routed by: the clauses that may be woken, who finds clauses, the requirements with a variable in a
-- row, and values
pub record Ways : Type 0 where
  pub clauses : List TrackedClause
  pub by_parent : List (List ℕ)
  pub conditions : List (List ℕ)
  pub requirements : ℕ → List Requirement
  pub val : Values

abbrev pub ways_of : {A : Type 0} → List TrackedClause → ClauseIndex A → Listed → Values → Ways
ways_of clauses index occurrences val = record {
  clauses = clauses;
  by_parent = index.by_parent;
  conditions = index.conditions;
  requirements = listing occurrences;
  val = val;
}

abbrev pub ways : {A : Type 0} → Routing A → Ways
ways r = ways_of r.clauses.now r.index.now r.occurrences.now (values_in r.map.now)

module _ (w : Ways) where
  -- the clauses of a requirement that was known to have no frontier, and isn't any more, are queued
  abbrev pub WakesForgotten : List Record → List Record → Queued → Type 0
  WakesForgotten old now q =
      (k : ℕ) → known_at old k ≡ Some None → known_at now k ≡ None → AreWoken w.clauses w.val (clauses_at old k) q

  -- these variables were routed
  pub record Routes (variables : List ℕ) (ts ts' : List Record) (q q' : Queued) : Type 0 where
    pub grows : GrowsBy (IsOfClause w.clauses) q q'
    pub only : OnlyForgets ts ts'
    pub parents : (v : ℕ) → Stands v variables → AreWoken w.clauses w.val (list_at w.by_parent v) q'
    pub unknown : (v : ℕ) → Stands v variables → AreUnknown (w.requirements v) ts'
    pub woken : WakesForgotten ts ts' q'
    pub others : Unrouted w.requirements variables ts ts'

  -- the conditions are noted in which one of these variables stands that has a value
  abbrev pub NotesConditions : List ℕ → List ℕ → Type 0
  NotesConditions variables noted =
      (v : ℕ) → Stands v variables → is_some (w.val v) ≡ true → AreNoted (list_at w.conditions v) noted

-- the variables of decisions
abbrev pub variables_of : List Decision → List ℕ
variables_of ds = map (λ (d : Decision). d.variable) ds

-- the variables of the decisions from a floor on, in either of two trails
abbrev pub changed_between : (floor : ℕ) → List Decision → List Decision → List ℕ
changed_between floor old now = variables_of (drop floor old) ++ variables_of (drop floor now)
