-- A queue that is ready for a question: synced at the values, and in order; and the pick along an order.
use Rattle.std.specs.Prelude.{List, filter, filter_map, fold, Option, Some, ◌≡◌, ℕ, Bool, true, false, if◌then◌else◌}
use Rattle.std.specs.Prelude.{None, slice_get, ◌⊎◌}
use Rattle.resolvo_queue.specs.Types.{Frontier, is_lt, known_true, Lit, Ordering, Position, Requirement, TrackedClause}
use Rattle.resolvo_queue.specs.Types.{Values, VersionSetId}
use Rattle.resolvo_queue.specs.Pick.{Offer, better, beats}
use Rattle.resolvo_queue.specs.Rows.{Row}
use Rattle.resolvo_queue.specs.Pick.Inspection.{eligible_frontier}
use Rattle.resolvo_queue.specs.Scan.Positions.{has, position_cmp, IsBefore}
use Rattle.resolvo_queue.specs.Parts.{Queued, IsOfClause, Record, IsPlaceOf}
use Rattle.resolvo_queue.specs.Scan.First.{numbered_scan, position_in}
use Rattle.resolvo_queue.specs.Routing.Synced.{KeepsQueued}

module _ {X K : Type 0} (cmp : K → K → Ordering) (key : X → K) (offer_of : X → Option Offer) where
  -- the items whose keys are above a key
  abbrev pub behind : K → List X → List X
  behind k xs = filter (λ x. is_lt (cmp k (key x))) xs

  -- what the items behind a key make of the best so far
  abbrev pub picked_behind : List X → Offer → K → Option Offer
  picked_behind xs best k = fold better (Some best) (filter_map offer_of (behind k xs))

abbrev pub at_position : ℕ → ℕ → Position
at_position first number = record { first_of_parent = first; number = number }

-- each clause keeps its position in the scan
abbrev pub AreLocated : List TrackedClause → Type 0
AreLocated clauses = (n : ℕ) (c : TrackedClause) → slice_get clauses n ≡ Some c →
    c.position ≡ position_in (λ (d : TrackedClause). d.parent) at_position clauses (n, c)

-- the clauses in the order of the scan, with their numbers
abbrev pub scanned : List TrackedClause → List (ℕ × TrackedClause)
scanned clauses = numbered_scan (λ (c : TrackedClause). c.parent) clauses

-- the better of the best so far and an offer, if there is one
abbrev pub improved : Offer → Option Offer → Offer
improved b None = b
improved b (Some e) = if beats e b then e else b

module _ (clauses : List TrackedClause) (literals : TrackedClause → List Lit) (rows_of : Requirement → List Row)
    (val : Values) where
  pub record IsReady (ts : List Record) (q : Queued) : Type 0 where
    pub synced : KeepsQueued clauses literals rows_of val (λ c. known_true (val c.parent)) ts q
    pub placed : (n : ℕ) (c : TrackedClause) → slice_get clauses n ≡ Some c → IsPlaceOf ts c.requirement c.record
    pub all_of : (p : Position) → has q.all p ≡ true → IsOfClause clauses p
    pub hot_of : (p : Position) → has q.hot p ≡ true → IsOfClause clauses p

-- ---- the pick along the scan

module _ (clauses : List TrackedClause) where
  abbrev pub place_of : ℕ × TrackedClause → Position
  place_of = position_in (λ (c : TrackedClause). c.parent) at_position clauses

  module _ (offers : TrackedClause → Option Offer) where
    -- what the clauses offer, in the order of the scan
    abbrev pub offered : List Offer
    offered = filter_map (λ x. offers x.1) (scanned clauses)

    -- what the clauses behind a position make of the best so far
    abbrev pub rest_picked : Offer → Position → Option Offer
    rest_picked b p = picked_behind position_cmp place_of (λ x. offers x.1) (scanned clauses) b p

module _ (clauses : List TrackedClause) (literals : TrackedClause → List Lit) (rows_of : Requirement → List Row)
    (val : Values) (score : VersionSetId → ℕ) where
  -- what isn't hot has no score
  abbrev pub ColdHasNoScore : Type 0
  ColdHasNoScore = (n : ℕ) (c : TrackedClause) → slice_get clauses n ≡ Some c → c.is_hot ≡ false →
      (f : Frontier) → eligible_frontier val literals rows_of c ≡ Some f → score f.set ≡ 0

-- no clause of the group behind the position can be better: the best has one candidate or the largest score, or none is
-- left
abbrev pub IsDone : Offer → ℕ → Position → (Position → Bool) → Type 0
IsDone b largest cursor counts =
    (b.frontier.count ≡ 1) ⊎ ((b.score ≡ largest) ⊎ ((p : Position) → IsBefore cursor p → counts p ≡ false))
