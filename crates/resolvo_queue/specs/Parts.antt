-- What a queue keeps, part by part: names, numbers in lists, what is queued, and records.
pub mod ByName
pub mod Tracking
pub mod UnderConditions
use Rattle.resolvo_queue.specs.declared.requirements.Walk.TheVariants as Kind
use Rattle.std.specs.Prelude.{◌≡◌, ◌≢◌, ℕ, Bool, false, List, [], All, Some, slice_get, slice_index_or, ◌⊎◌, true}
use Rattle.std.specs.Prelude.{length, Option, None, if◌then◌else◌, zero, suc, ◌+◌, is_some, ◌∷◌, ◌++◌, ◌≤◌}
use Rattle.resolvo_queue.specs.Types.{Frontier, known_true, Lit, lookup, Position, Requirement, same_requirement}
use Rattle.resolvo_queue.specs.Types.{TrackedClause, Values, variable_of}
use Rattle.resolvo_queue.specs.Rows.ByVariable.{list_at}
use Rattle.resolvo_queue.specs.Members.{Stands}
use Rattle.resolvo_queue.specs.Scan.Positions.{has, same_position}
use Rattle.resolvo_queue.specs.Rows.{Row}
use Rattle.resolvo_queue.specs.Routing.Possible.{Known}
use Rattle.resolvo_queue.specs.declared.requirements.RequirementRecord.{RequirementRecord}
use Rattle.resolvo_queue.specs.declared.requirements.Walk.{Walk}

-- ---- the names of clauses' packages

abbrev pub names_at : {N : Type 0} → List (List N) → ℕ → List N
names_at names n = slice_index_or names n []

-- a clause that isn't hot has no hot name
abbrev pub AreCold : {N : Type 0} → (N → Bool) → List (List N) → List TrackedClause → Type 0
AreCold hot names clauses = (n : ℕ) (c : TrackedClause) → slice_get clauses n ≡ Some c → c.is_hot ≡ false →
    All (λ m. hot m ≡ false) (names_at names n)

-- no clause that isn't hot has the name
abbrev pub ColdLack : {N : Type 0} → N → List (List N) → List TrackedClause → Type 0
ColdLack name names clauses = (n : ℕ) (c : TrackedClause) → slice_get clauses n ≡ Some c → c.is_hot ≡ false →
    All (λ m. m ≢ name) (names_at names n)

-- ---- how a clause comes to the lists by which it is found

-- the number came to some lists, and nothing left any
pub record GainsNumber (number : ℕ) (old new : List (List ℕ)) : Type 0 where
  pub kept : (v n : ℕ) → Stands n (list_at old v) → Stands n (list_at new v)
  pub added : (v n : ℕ) → Stands n (list_at new v) → Stands n (list_at old v) ⊎ (n ≡ number)

-- the number stands in the list of each of the literals' variables
abbrev pub FoundByAll : ℕ → List Lit → List (List ℕ) → Type 0
FoundByAll number literals lists = (l : Lit) → Stands l literals → Stands number (list_at lists (variable_of l))

-- nothing left any list
abbrev pub KeepsItems : (old new : List (List ℕ)) → Type 0
KeepsItems old new = (v n : ℕ) → Stands n (list_at old v) → Stands n (list_at new v)

-- a clause has the condition
abbrev pub HasCondition : List TrackedClause → ℕ → Type 0
HasCondition clauses d = (n : ℕ) × (c : TrackedClause) × (slice_get clauses n ≡ Some c) × (c.condition ≡ Some d)

-- ---- positions that are queued

-- the positions of clauses that may be eligible, and those of the hot ones
pub record Queued : Type 0 where
  pub all : List Position
  pub hot : List Position

-- the hot ones alone, or all
abbrev pub set_of : Bool → Queued → List Position
set_of only_hot q = if only_hot then q.hot else q.all

abbrev pub is_empty_queue : Queued → Type 0
is_empty_queue q = (p : Position) → (has q.all p ≡ false) × (has q.hot p ≡ false)

-- the clause, hot
abbrev pub heated : TrackedClause → TrackedClause
heated c = record c { is_hot = true }

-- the clause is queued, and among the hot ones if it is hot
pub record IsQueued (q : Queued) (c : TrackedClause) : Type 0 where
  pub all : has q.all c.position ≡ true
  pub hot : c.is_hot ≡ true → has q.hot c.position ≡ true

-- nothing leaves, and what comes is such a position
pub record GrowsBy (New : Position → Type 0) (old now : Queued) : Type 0 where
  pub all_kept : (p : Position) → has old.all p ≡ true → has now.all p ≡ true
  pub hot_kept : (p : Position) → has old.hot p ≡ true → has now.hot p ≡ true
  pub all_new : (p : Position) → has now.all p ≡ true → (has old.all p ≡ true) ⊎ New p
  pub hot_new : (p : Position) → has now.hot p ≡ true → (has old.hot p ≡ true) ⊎ New p

-- one position is out, and nothing else changes
pub record LosesOnly (gone : Position) (old now : Queued) : Type 0 where
  pub all : (p : Position) → has now.all p ≡ (if same_position gone p then false else has old.all p)
  pub hot : (p : Position) → has now.hot p ≡ (if same_position gone p then false else has old.hot p)

module _ (clauses : List TrackedClause) where
  -- the position is that of a clause
  abbrev pub IsOfClause : Position → Type 0
  IsOfClause p = (c : TrackedClause) × (slice_get clauses p.number ≡ Some c) × (c.position ≡ p)

  -- the clause with this number, if there is one, is queued if its parent is true
  abbrev pub IsWoken : Values → ℕ → Queued → Type 0
  IsWoken val n q = (c : TrackedClause) → slice_get clauses n ≡ Some c → known_true (val c.parent) ≡ true → IsQueued q c

  -- the numbered clauses with a true parent are queued
  abbrev pub AreWoken : Values → List ℕ → Queued → Type 0
  AreWoken val numbers q = (n : ℕ) (c : TrackedClause) → Stands n numbers → slice_get clauses n ≡ Some c →
      known_true (val c.parent) ≡ true → IsQueued q c

  -- the clauses under a condition with a true parent are queued
  abbrev pub AreWokenUnder : Values → ℕ → Queued → Type 0
  AreWokenUnder val d q = (n : ℕ) (c : TrackedClause) → slice_get clauses n ≡ Some c → c.condition ≡ Some d →
      known_true (val c.parent) ≡ true → IsQueued q c

  -- each clause's position has its number
  abbrev pub HaveNumbers : Type 0
  HaveNumbers = (n : ℕ) (c : TrackedClause) → slice_get clauses n ≡ Some c → c.position.number ≡ n

-- ---- what is kept for each requirement

-- the numbers of the clauses with a requirement, what is known of its rows, and how often they were walked
pub record Record : Type 0 where
  pub requirement : Requirement
  pub clauses : List ℕ
  pub walk : Known
  pub walks : ℕ

abbrev pub walk_of : Option Record → Known
walk_of None = None
walk_of (Some t) = t.walk

abbrev pub clauses_in : Option Record → List ℕ
clauses_in None = []
clauses_in (Some t) = t.clauses

abbrev pub rows_in : (Requirement → List Row) → Option Record → List Row
rows_in rows_of None = []
rows_in rows_of (Some t) = rows_of t.requirement

-- by the place of a record
abbrev pub known_at : List Record → ℕ → Known
known_at ts place = walk_of (slice_get ts place)

abbrev pub clauses_at : List Record → ℕ → List ℕ
clauses_at ts place = clauses_in (slice_get ts place)

abbrev pub rows_at : (Requirement → List Row) → List Record → ℕ → List Row
rows_at rows_of ts place = rows_in rows_of (slice_get ts place)

-- the record at this place is that of the requirement
abbrev pub IsPlaceOf : List Record → Requirement → ℕ → Type 0
IsPlaceOf ts r place = (t : Record) × (slice_get ts place ≡ Some t) × (t.requirement ≡ r)

-- no record is that of the requirement
abbrev pub HasNoPlace : List Record → Requirement → Type 0
HasNoPlace ts r = (place : ℕ) (t : Record) → slice_get ts place ≡ Some t → same_requirement r t.requirement ≡ false

-- the record of a requirement that comes
abbrev pub fresh : Requirement → Record
fresh r = record { requirement = r; clauses = []; walk = None; walks = 0 }

-- nothing changed, or a record came for this requirement
abbrev pub GainsRecord : Requirement → List Record → List Record → Type 0
GainsRecord r old now = (now ≡ old) ⊎ (now ≡ old ++ fresh r ∷ [])

-- one record changed
abbrev pub updated_at : (Record → Record) → List Record → ℕ → List Record
updated_at f [] place = []
updated_at f (t ∷ ts) zero = f t ∷ ts
updated_at f (t ∷ ts) (suc place) = t ∷ updated_at f ts place

-- one clause more with the requirement
abbrev pub with_clause : ℕ → Record → Record
with_clause number t = record {
  requirement = t.requirement;
  clauses = t.clauses ++ number ∷ [];
  walk = t.walk;
  walks = t.walks;
}

abbrev pub forgotten : Record → Record
forgotten t = record { requirement = t.requirement; clauses = t.clauses; walk = None; walks = t.walks }

abbrev pub walked : Option Frontier → Record → Record
walked frontier t = record {
  requirement = t.requirement;
  clauses = t.clauses;
  walk = Some frontier;
  walks = t.walks + 1;
}

-- w(r) of the record at a place: its walks, and one more while its frontier isn't known
abbrev pub owed_of : Option Record → ℕ
owed_of None = 0
owed_of (Some t) = t.walks + (if is_some t.walk then 0 else 1)

abbrev pub OwesSame : List Record → List Record → Type 0
OwesSame old now = (k : ℕ) → owed_of (slice_get now k) ≡ owed_of (slice_get old k)

-- the clauses with each requirement stay
abbrev pub SameFound : List Record → List Record → Type 0
SameFound old now = (k : ℕ) → clauses_at now k ≡ clauses_at old k

-- ---- records as their code keeps them

abbrev pub known_of : Walk → Known
known_of Kind.Unknown = None
known_of (Kind.Known f) = Some f

abbrev pub record_seen : {A : Type 0} → RequirementRecord A → Record
record_seen r = record {
  requirement = r.requirement;
  clauses = r.clauses.items;
  walk = known_of r.walk;
  walks = length r.log.walked;
}

-- what is known of a requirement's rows was found by a walk
abbrev pub IsCounted : Record → Type 0
IsCounted t = (t.walk ≡ None) ⊎ (1 ≤ t.walks)

-- each requirement's record stands at its place, and each place is that of the record's requirement
pub record ArePlaced (ts : List Record) (places : List (Requirement × ℕ)) : Type 0 where
  pub at : (place : ℕ) (t : Record) → slice_get ts place ≡ Some t →
      lookup (same_requirement t.requirement) places ≡ Some place
  pub of : (r : Requirement) (place : ℕ) → lookup (same_requirement r) places ≡ Some place → IsPlaceOf ts r place
  pub counted : (place : ℕ) (t : Record) → slice_get ts place ≡ Some t → IsCounted t
