-- What contracts see of a queue, and how its calls change it. N are the names of packages, H the sets of them.
use Rattle.std.specs.Prelude.{◌≡◌, ℕ, Bool, false, ◌≤◌, List, [], ◌∷◌, ◌++◌, map, take}
use Rattle.std.specs.Prelude.{length, All, Option, IsSome}
use Rattle.resolvo_queue.specs.Types.{Decision, Disjunction, lookup, Requirement, same_requirement, SameValues, sets_of}
use Rattle.resolvo_queue.specs.Types.{Universe, Values}
use Rattle.resolvo_queue.specs.Pick.{Offer, eligible}
use Rattle.resolvo_queue.specs.Pick.Inspection.{clause_of}
use Rattle.resolvo_queue.specs.Rows.Listing.{IsListedWell}
use Rattle.resolvo_queue.specs.Parts.{AreCold}
use Rattle.resolvo_queue.specs.Pick.Questions.{clause_literals}
use Rattle.resolvo_queue.specs.References.{HasParts, Lists, References, literals_in, references, rows_in, score_in}
use Rattle.resolvo_queue.specs.Routing.Synced.{FindsConditions, KeepsQueued, counts}
pub use Rattle.resolvo_queue.specs.Routing.Synced.{values_of}
use Rattle.resolvo_queue.specs.Parts.Tracking.{IsInOrder, Tracking, tracking_of}
use Rattle.resolvo_queue.specs.Scan.{first_falsified, is_eligible, scan}
use Rattle.resolvo_queue.specs.declared.tracked_clauses.TrackedClauses.{TrackedClauses}
use Rattle.resolvo_queue.specs.declared.requires_clause.RequiresClause.{RequiresClause}

pub record Queue (N H : Type 0) : Type 0 where
  -- the registered clauses in order, and the names that were handed in with each
  pub clauses : List RequiresClause
  pub names : List (List N)
  -- the trail of the last accepted sync
  pub trail : List Decision
  -- the last sync was refused
  pub must_start_anew : Bool
  -- the names that were marked hot
  pub hot : H
  -- what is kept beside: calls tell of it only what `StandsOn` says, and how often requirements were walked
  pub inside : Tracking
  -- how many clauses are queued where they may be eligible
  pub woken : ℕ

-- a queue's value: what contracts see of what it keeps
abbrev pub queue_of : {N H A : Type 0} → TrackedClauses A → List (List N) → H → (woken : ℕ) → Queue N H
queue_of tracked names hot woken = record {
  clauses = map clause_of tracked.index.clauses.items;
  names = names;
  trail = tracked.trail.items;
  must_start_anew = tracked.must_start_anew;
  hot = hot;
  inside = tracking_of tracked;
  woken = woken;
}

-- ---- what a call leaves as it was

module _ {N H : Type 0} (old new : Queue N H) where
  pub record SameClauses : Type 0 where
    pub clauses : new.clauses ≡ old.clauses
    pub names : new.names ≡ old.names

  pub record SameSync : Type 0 where
    pub trail : new.trail ≡ old.trail
    pub must_start_anew : new.must_start_anew ≡ old.must_start_anew

  -- all that contracts see, where has tells what sets of names have
  pub record IsUnchanged (has : H → N → Bool) : Type 0 where
    pub clauses : SameClauses
    pub synced : SameSync
    pub hot : SameValues (has old.hot) (has new.hot)

-- ---- what calls change

-- the queue of no clause, of an empty trail, and without hot names
pub record IsNew {N H : Type 0} (has : H → N → Bool) (q : Queue N H) : Type 0 where
  pub clauses : q.clauses ≡ []
  pub names : q.names ≡ []
  pub trail : q.trail ≡ []
  pub must_start_anew : q.must_start_anew ≡ false
  pub hot : (n : N) → has q.hot n ≡ false

-- one clause more, with its names
pub record IsRegistered {N H : Type 0} (has : H → N → Bool) (clause : RequiresClause) (its_names : List N)
    (old new : Queue N H) : Type 0 where
  pub clauses : new.clauses ≡ old.clauses ++ clause ∷ []
  pub names : new.names ≡ old.names ++ its_names ∷ []
  pub trail : new.trail ≡ old.trail
  pub must_start_anew : new.must_start_anew ≡ old.must_start_anew
  pub hot : SameValues (has old.hot) (has new.hot)

-- the trail of an accepted sync
pub record HasTrail {N H : Type 0} (entries : List Decision) (q : Queue N H) : Type 0 where
  pub trail : q.trail ≡ entries
  pub must_start_anew : q.must_start_anew ≡ false

-- ---- what calls ask

-- the trail is the queue's below the floor
abbrev pub AgreesBelow : {N H : Type 0} (floor : ℕ) → List Decision → Queue N H → Type 0
AgreesBelow floor entries q = take floor q.trail ≡ take floor entries

-- the last sync was accepted, and the values are those of its trail
pub record IsSynced {N H : Type 0} (val : Values) (q : Queue N H) : Type 0 where
  pub accepted : q.must_start_anew ≡ false
  pub trail : SameValues (values_of q.trail) val

-- the names handed in with each clause are the packages of its requirement's version sets, in order
abbrev pub AreNamed : {N S H : Type 0} → Universe N S → Queue N H → Type 0
AreNamed universe q = q.names ≡ map (λ c. map universe.set_name (sets_of universe c.requirement)) q.clauses

-- a name that isn't hot has no score
abbrev pub OnlyHotScore : {N H : Type 0} → (H → N → Bool) → (N → ℕ) → Queue N H → Type 0
OnlyHotScore {N} has scores q = (n : N) → has q.hot n ≡ false → scores n ≡ 0

-- what the queue's clauses name is there, and as it was when they were registered: the variables of a condition find
-- it, the rows of listed requirements are listed, and unless the last sync was refused, all woken clauses that may be
-- eligible are queued, but for those under noted conditions, and what is known of rows is right
pub record StandsOn {N S A H : Type 0} (refs : References N S A) (q : Queue N H) : Type 0 where
  pub clauses : q.clauses ≡ map clause_of q.inside.clauses
  pub parts : All (HasParts refs) q.clauses
  pub conditions : FindsConditions q.inside.clauses (clause_literals refs) q.inside.conditions
  pub listed : IsListedWell refs.lists q.inside.occurrences q.inside.requirements
  pub synced : q.must_start_anew ≡ false →
      KeepsQueued q.inside.clauses (clause_literals refs) (rows_in refs) (values_of q.trail)
      (counts (values_of q.trail) q.woken q.inside.noted) q.inside.requirements q.inside.queued

-- what stood, stands
abbrev pub StandsStill : (S A : Type 0) → {N H : Type 0} → (old new : Queue N H) → Type 0
StandsStill S A {N} old new = (refs : References N S A) → StandsOn refs old → StandsOn refs new

-- what stood by lists that have one for the requirement, stands by them
abbrev pub StandsWithListed : (S : Type 0) → {N A H : Type 0} → Requirement → List (Disjunction A) →
    (old new : Queue N H) → Type 0
StandsWithListed S {N} {A} r disjunctions old new =
    (universe : Universe N S) (lists : Lists A) → IsSome (lookup (same_requirement r) lists) →
    StandsOn (references universe lists disjunctions) old → StandsOn (references universe lists disjunctions) new

-- ---- what questions answer

module _ {N S A H : Type 0} (refs : References N S A) (val : Values) (q : Queue N H) where
  -- what the eligible clauses offer, in the order of the scan
  abbrev pub offers_in : (N → ℕ) → List Offer
  offers_in scores = eligible val (literals_in refs) (rows_in refs) (score_in refs scores) q.clauses

  -- no clause of the scan is eligible
  abbrev pub HasNoneEligible : Type 0
  HasNoneEligible = All (λ c. is_eligible val (literals_in refs) (rows_in refs) c ≡ false) (scan q.clauses)

  -- the first falsified clause of the scan
  abbrev pub falsified_in : Option RequiresClause
  falsified_in = first_falsified val (literals_in refs) (rows_in refs) q.clauses

-- what always holds of a queue
pub record IsWellFormed {N H : Type 0} (has : H → N → Bool) (q : Queue N H) : Type 0 where
  pub order : IsInOrder q.inside
  pub names : length q.names ≡ length q.inside.clauses
  pub woken : q.woken ≤ length q.inside.clauses
  pub cold : AreCold (has q.hot) q.names q.inside.clauses
