-- How often the rows of requirements were walked, and how often they may be walked before a variable changes.
use Rattle.std.specs.Prelude.{◌≡◌, ◌⊎◌, ℕ, ◌+◌, ◌≤◌, Bool, true, false, is_some}
use Rattle.std.specs.Prelude.{List, ◌++◌, Option, None, Some, find, drop}
use Rattle.resolvo_queue.specs.Types.{Decision, Requirement, same_requirement}
use Rattle.resolvo_queue.specs.Occurrences.{times}
use Rattle.resolvo_queue.specs.Members.{Stands}
use Rattle.resolvo_queue.specs.Queue.{Queue, StandsOn}
use Rattle.resolvo_queue.specs.References.{IsWalkable, References, rows_in}
use Rattle.resolvo_queue.specs.Routing.{variables_of}
use Rattle.resolvo_queue.specs.Rows.{Row}
use Rattle.resolvo_queue.specs.Parts.{Record, owed_of, walk_of}

-- the record of a requirement, if it has one
abbrev pub record_of : List Record → Requirement → Option Record
record_of ts r = find (λ (t : Record). same_requirement r t.requirement) ts

abbrev pub walks_of : Option Record → ℕ
walks_of None = 0
walks_of (Some t) = t.walks

-- how often its rows were walked; never without a record
abbrev pub walks_in : List Record → Requirement → ℕ
walks_in ts r = walks_of (record_of ts r)

-- the walks, and one more while nothing is known of the rows; 0 without a record
abbrev pub owed_in : List Record → Requirement → ℕ
owed_in ts r = owed_of (record_of ts r)

-- whether what a walk answered is known
abbrev pub is_known : List Record → Requirement → Bool
is_known ts r = is_some (walk_of (record_of ts r))

-- ---- in a queue

abbrev pub walks : {N H : Type 0} → Queue N H → Requirement → ℕ
walks q r = walks_in q.inside.requirements r

abbrev pub owed : {N H : Type 0} → Queue N H → Requirement → ℕ
owed q r = owed_in q.inside.requirements r

-- ---- a question

-- requirements were walked, each once, and no others; the log has them, and each walk is owed no more
pub record WalksOnce (old now : List Record) (log log' : List Requirement) : Type 0 where
  pub walked : List Requirement
  pub logged : log' ≡ log ++ walked
  pub once : (r : Requirement) → times walked r ≤ 1
  pub walks : (r : Requirement) → walks_in now r ≡ walks_in old r + times walked r
  pub owed : (r : Requirement) → owed_in now r ≡ owed_in old r
  -- nothing was known of the rows of those, and now it is
  pub unknown : (r : Requirement) → 1 ≤ times walked r → is_known old r ≡ false
  pub known : (r : Requirement) → 1 ≤ times walked r → is_known now r ≡ true
  -- the records of all others stay, so nothing is forgotten
  pub others : (r : Requirement) → times walked r ≡ 0 → record_of now r ≡ record_of old r

-- ---- a clause that comes

-- the walks stay, and so does what is owed, but that a requirement may get its record, and owes its first walk
pub record OwesFirst (own : Requirement) (old now : List Record) : Type 0 where
  pub walks : (r : Requirement) → walks_in now r ≡ walks_in old r
  pub owed : (r : Requirement) → (owed_in now r ≡ owed_in old r) ⊎
      ((r ≡ own) × (owed_in old r ≡ 0) × (owed_in now r ≡ 1))

-- ---- a sync

-- the variables of the decisions from a floor on, in the queue's trail and in another
abbrev pub changed_from : {N H : Type 0} → ℕ → List Decision → Queue N H → List ℕ
changed_from floor entries q = variables_of (drop floor q.trail) ++ variables_of (drop floor entries)

-- no row has one of the variables
abbrev pub HasNoneOf : List ℕ → List Row → Type 0
HasNoneOf variables rows = (row : Row) → Stands row rows → Stands row.variable variables → ⊥

-- where what the clauses name is there, no walk more is owed of a requirement whose rows have none of the variables
abbrev pub OwesMoreAmong : (S A : Type 0) → {N H : Type 0} → (variables : List ℕ) → (old new : Queue N H) → Type 0
OwesMoreAmong S A {N} variables old new =
    (refs : References N S A) → StandsOn refs old → (r : Requirement) → IsWalkable refs.universe refs.lists r →
    HasNoneOf variables (rows_in refs r) → owed new r ≡ owed old r
