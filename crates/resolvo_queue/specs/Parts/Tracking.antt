-- What a queue keeps beside what contracts see, and how a clause comes to it.
use Rattle.std.specs.Prelude.{◌≡◌, ◌==◌, ◌<◌, ◌^◌, ℕ, Bool, true, false, List, [], ◌∷◌, ◌++◌, ◌+◌, ◌⊎◌, map, length}
use Rattle.std.specs.Prelude.{Some, is_some, slice_get, IfSome, MatchOption}
use Rattle.resolvo_queue.specs.Types.{IsUpdate, Lit, Position, Requirement, RequiresClause, SameValues, TrackedClause}
use Rattle.resolvo_queue.specs.Types.{Values}
use Rattle.resolvo_queue.specs.Rows.ByVariable.{list_at}
use Rattle.resolvo_queue.specs.Pick.Inspection.{clause_of}
use Rattle.resolvo_queue.specs.Occurrences.{Listed}
use Rattle.resolvo_queue.specs.Members.{Stands}
use Rattle.resolvo_queue.specs.Scan.Positions.{has}
use Rattle.resolvo_queue.specs.Parts.{Queued, IsOfClause, heated}
use Rattle.resolvo_queue.specs.Pick.Ready.{AreLocated, at_position}
use Rattle.resolvo_queue.specs.Parts.{FoundByAll, HasCondition, KeepsItems}
use Rattle.resolvo_queue.specs.Parts.UnderConditions.{AreChained, newest_at, Renews}
use Rattle.resolvo_queue.specs.Rows.{Row}
use Rattle.resolvo_queue.specs.Scan.First.{first_from, position_in}
use Rattle.resolvo_queue.specs.Routing.Synced.{KeepsQueued}
use Rattle.resolvo_queue.specs.Parts.{Record, IsPlaceOf, clauses_at, known_at}
use Rattle.resolvo_queue.specs.declared.tracked_clauses.TrackedClauses.{TrackedClauses}

-- the clauses, who finds them, what is known of their requirements, and which of them may be eligible
pub record Tracking : Type 0 where
  pub clauses : List TrackedClause
  pub by_parent : List (List ℕ)
  pub newest_under : List ℕ
  pub conditions : List (List ℕ)
  pub requirements : List Record
  pub occurrences : Listed
  pub queued : Queued
  pub noted : List ℕ

abbrev pub tracking_of : {A : Type 0} → TrackedClauses A → Tracking
tracking_of t = record {
  clauses = t.index.clauses.items;
  by_parent = t.index.by_parent;
  newest_under = t.index.newest_under.items;
  conditions = t.index.conditions;
  requirements = t.requirements;
  occurrences = t.occurrences;
  queued = t.queued;
  noted = t.noted;
}

-- ---- a parent's first clause

module _ (clauses : List TrackedClause) where
  abbrev pub HasNoClause : ℕ → Type 0
  HasNoClause parent = (n : ℕ) (c : TrackedClause) → slice_get clauses n ≡ Some c → (c.parent == parent) ≡ false

  -- the clause with this number is the parent's first
  pub record IsFirstOf (parent number : ℕ) : Type 0 where
    pub clause : TrackedClause
    pub at : slice_get clauses number ≡ Some clause
    pub own : clause.parent ≡ parent
    pub first : number ≡ first_from (λ (c : TrackedClause). c.parent) 0 clauses parent

  -- each parent's list begins with its first clause
  abbrev pub BeginFirst : List (List ℕ) → Type 0
  BeginFirst lists = (parent : ℕ) →
      MatchOption (slice_get (list_at lists parent) 0) (HasNoClause parent) (IsFirstOf parent)

-- ---- what always holds, whatever was refused

pub record IsInOrder (t : Tracking) : Type 0 where
  pub few : length t.clauses < 2 ^ 32
  -- positions are those of the scan, and a parent's list begins with its first clause
  pub located : AreLocated t.clauses
  pub first : BeginFirst t.clauses t.by_parent
  -- each clause is found by its parent, by its condition, and by its requirement, whose record it knows
  pub chained : AreChained t.clauses t.newest_under
  pub parents : (n : ℕ) (c : TrackedClause) → slice_get t.clauses n ≡ Some c → Stands n (list_at t.by_parent c.parent)
  pub requirements : (n : ℕ) (c : TrackedClause) → slice_get t.clauses n ≡ Some c →
      Stands n (clauses_at t.requirements c.record)
  pub placed : (n : ℕ) (c : TrackedClause) → slice_get t.clauses n ≡ Some c →
      IsPlaceOf t.requirements c.requirement c.record
  -- what is queued are positions of clauses
  pub all_of : (p : Position) → has t.queued.all p ≡ true → IsOfClause t.clauses p
  pub hot_of : (p : Position) → has t.queued.hot p ≡ true → IsOfClause t.clauses p

-- ---- how a clause comes

-- records may come, and numbers of clauses; what is known of rows stays, and no more is known
pub record GainsClauses (old now : List Record) : Type 0 where
  pub places : (r : Requirement) (k : ℕ) → IsPlaceOf old r k → IsPlaceOf now r k
  pub clauses : (k n : ℕ) → Stands n (clauses_at old k) → Stands n (clauses_at now k)
  pub known : (k : ℕ) → known_at now k ≡ known_at old k
  pub of_known : (k : ℕ) (t : Record) → slice_get now k ≡ Some t → is_some t.walk ≡ true →
      (u : Record) × (slice_get old k ≡ Some u) × (u.requirement ≡ t.requirement) × (is_some u.walk ≡ true)

-- what was found is found, nothing more is known, and nothing is queued
pub record Gains (old now : Tracking) : Type 0 where
  pub records : GainsClauses old.requirements now.requirements
  pub conditions : KeepsItems old.conditions now.conditions
  pub occurrences : now.occurrences ≡ old.occurrences
  pub queued : now.queued ≡ old.queued
  pub noted : now.noted ≡ old.noted

-- a registration was refused: what it left behind harms nothing
pub record IsAsBefore (old now : Tracking) : Type 0 where
  pub gains : Gains old now
  pub clauses : now.clauses ≡ old.clauses
  pub by_parent : SameValues (list_at old.by_parent) (list_at now.by_parent)
  pub newest_under : SameValues (newest_at old.newest_under) (newest_at now.newest_under)

-- one clause more, found by all that have to find it
pub record Registers (clause : RequiresClause) (is_hot : Bool) (literals : List Lit) (old now : Tracking) : Type 0 where
  pub gains : Gains old now
  pub new : TrackedClause
  pub is : clause_of new ≡ clause
  pub hot : new.is_hot ≡ is_hot
  pub clauses : now.clauses ≡ old.clauses ++ new ∷ []
  pub position : new.position ≡ position_in (λ (c : TrackedClause). c.parent) at_position now.clauses
      (length old.clauses, new)
  pub by_parent : IsUpdate (list_at old.by_parent) clause.parent
      (list_at old.by_parent clause.parent ++ length old.clauses ∷ []) (list_at now.by_parent)
  pub newest_under : Renews clause.condition (length old.clauses + 1) old.newest_under now.newest_under
  pub earlier : IfSome clause.condition (λ d. new.earlier ≡ newest_at old.newest_under d)
  pub conditions : IfSome clause.condition (λ d. FoundByAll d literals now.conditions ⊎ HasCondition old.clauses d)
  pub requirements : Stands (length old.clauses) (clauses_at now.requirements new.record)
  pub placed : IsPlaceOf now.requirements new.requirement new.record

-- ---- how clauses become hot

-- some clauses became hot, and nothing else changed
pub record Heats (old now : Tracking) : Type 0 where
  pub clauses : map clause_of now.clauses ≡ map clause_of old.clauses
  pub in_order : IsInOrder old → IsInOrder now
  pub cold : (n : ℕ) (c : TrackedClause) → slice_get now.clauses n ≡ Some c → c.is_hot ≡ false →
      slice_get old.clauses n ≡ Some c
  pub by_parent : now.by_parent ≡ old.by_parent
  pub newest_under : now.newest_under ≡ old.newest_under
  pub conditions : now.conditions ≡ old.conditions
  pub requirements : now.requirements ≡ old.requirements
  pub occurrences : now.occurrences ≡ old.occurrences
  pub noted : now.noted ≡ old.noted
  pub finds : (n : ℕ) (c : TrackedClause) → slice_get now.clauses n ≡ Some c →
      (d : TrackedClause) × (slice_get old.clauses n ≡ Some d) × (c.condition ≡ d.condition)
  pub synced : (literals : TrackedClause → List Lit) (rows_of : Requirement → List Row) (val : Values)
      (counted : TrackedClause → Bool) → ((d : TrackedClause) → literals (heated d) ≡ literals d) →
      ((d : TrackedClause) → counted (heated d) ≡ counted d) →
      KeepsQueued old.clauses literals rows_of val counted old.requirements old.queued →
      KeepsQueued now.clauses literals rows_of val counted now.requirements now.queued
