-- How often commands walk the rows of requirements, and when they sync the queue. N are the names, S the solvables.
use Rattle.std.specs.Prelude.{◌≡◌, ◌⊎◌, ℕ, ◌+◌, ◌≤◌, min, false, List, ◌++◌, drop, length, All}
use Rattle.typed_ids.specs.TotalMaps.{SameValues}
use Rattle.providers.specs.declared.requirement.Requirement.{Requirement}
use Rattle.decisions.specs.Trail.{Entry}
use Rattle.resolvo_queue.specs.Routing.{variables_of}
use Rattle.resolvo_queue.specs.WalkCounts.{HasNoneOf}
use Rattle.resolvo_store.specs.QueueState.{QueueState, owed, walks}
use Rattle.resolvo_store.specs.Command.{Command, Requires, Bump, Standard, UndoLast, UndoUntil, Decide, Reply, Decided}
use Rattle.resolvo_store.specs.Command.{NoDecision, Falsified}
use Rattle.resolvo_store.specs.Store.{Store, rows_of}
use Rattle.resolvo_store.specs.Synced.{decisions_of}

-- the queue was not synced
pub record SyncsNothing (old new : QueueState) : Type 0 where
  pub trail : new.trail ≡ old.trail
  pub must_start_anew : new.must_start_anew ≡ old.must_start_anew
  pub floor : new.floor ≡ old.floor

-- no rows were read, and nothing more is owed
pub record WalksNothing (old new : QueueState) : Type 0 where
  pub walks : SameValues (walks old) (walks new)
  pub owed : SameValues (owed old) (owed new)
  pub in_sync : SyncsNothing old new

-- nor was where a requires clause came, but that its requirement owes its first walk, if it owed none
pub record OwesFirst (own : Requirement) (old new : QueueState) : Type 0 where
  pub walks : SameValues (walks old) (walks new)
  pub owed : (r : Requirement) → (owed new r ≡ owed old r) ⊎ ((r ≡ own) × (owed old r ≡ 0) × (owed new r ≡ 1))
  pub in_sync : SyncsNothing old new

-- no requirement owes more walks, but this one its first, if it owed none
abbrev pub MayOweFirst : Requirement → (Requirement → ℕ) → (Requirement → ℕ) → Type 0
MayOweFirst own old new = (r : Requirement) → (new r ≡ old r) ⊎ ((r ≡ own) × (old r ≡ 0) × (new r ≡ 1))

-- the trail became shorter, or stayed
abbrev pub taken_back : List Entry → QueueState → QueueState
taken_back left queue_state = record queue_state { floor = min queue_state.floor (length left) }

-- the queue was synced with the trail
pub record HasSynced (entries : List Entry) (new : QueueState) : Type 0 where
  pub trail : new.trail ≡ decisions_of entries
  pub must_start_anew : new.must_start_anew ≡ false
  pub floor : new.floor ≡ length entries

module _ {N S : Type 0} (st : Store N S) where
  -- the variables of the entries from the floor on, in the trail of the queue's last sync and in the store's
  abbrev pub changed_since : QueueState → List ℕ
  changed_since queue_state =
      variables_of (drop queue_state.floor queue_state.trail) ++
      variables_of (drop queue_state.floor (decisions_of st.trail))

  -- a question walks no requirement twice, and none that owes no walk; it makes each owe at most one walk more; and it
  -- makes none owe one whose rows have no variable that changed, unless the queue's last sync was refused
  pub record WalksEachOnce (old new : QueueState) : Type 0 where
    pub once : (r : Requirement) → walks new r ≤ walks old r + 1
    pub within : (r : Requirement) → walks new r ≤ owed new r
    pub one_more : (r : Requirement) → owed new r ≤ owed old r + 1
    pub owed_still : old.must_start_anew ≡ false →
        All (λ c. HasNoneOf (changed_since old) (rows_of st c.requirement) →
        owed new c.requirement ≡ owed old c.requirement) st.requires

  -- what a command does to the queue's state, where it leaves these entries
  abbrev pub QueueStep : Command N S → Reply → List Entry → QueueState → QueueState → Type 0
  QueueStep (Requires parent r disjunction) reply left old new = OwesFirst r old new
  QueueStep (Bump name amount) reply left old new = WalksNothing old new
  QueueStep (Standard standard) reply left old new = WalksNothing old new
  QueueStep UndoLast reply left old new = new ≡ taken_back left old
  QueueStep (UndoUntil level) reply left old new = new ≡ taken_back left old
  QueueStep Decide (Falsified clause) left old new = new ≡ old
  QueueStep Decide (Decided decision) left old new = WalksEachOnce old new × HasSynced st.trail new
  QueueStep Decide NoDecision left old new = WalksEachOnce old new × HasSynced st.trail new
  QueueStep Decide reply left old new = WalksEachOnce old new
  QueueStep command reply left old new = new ≡ old

  -- what a Decide with this reply does to it
  abbrev pub DecideStep : Reply → QueueState → QueueState → Type 0
  DecideStep reply old new = QueueStep Decide reply st.trail old new
