-- What the inspection of a clause answers, and what it changes.
use Rattle.std.specs.Prelude.{◌≡◌, ℕ, Bool, true, ◌&&◌, if◌then◌else◌, ◌⊎◌}
use Rattle.std.specs.Prelude.{List, [], ◌∷◌, ◌++◌, Option, None, option_map}
use Rattle.resolvo_queue.specs.Types.{Frontier, known_true, Lit, Requirement, RequiresClause, TrackedClause, Values}
use Rattle.resolvo_queue.specs.Types.{VersionSetId}
use Rattle.resolvo_queue.specs.Pick.{Offer}
use Rattle.resolvo_queue.specs.Rows.{Row, frontier}
use Rattle.resolvo_queue.specs.Occurrences.{Listed, is_listed, HasAll}
use Rattle.resolvo_queue.specs.Routing.Possible.{may_have_frontier}
use Rattle.resolvo_queue.specs.Scan.{are_literals_false}
use Rattle.resolvo_queue.specs.Parts.{Record, known_at, updated_at, walked}

-- nothing changed, or a requirement of which nothing was known was walked once
abbrev pub Learns : Requirement → ℕ → Option Frontier → List Record → List Record → List Requirement →
    List Requirement → Type 0
Learns r place answer old now log log' = ((now ≡ old) × (log' ≡ log)) ⊎
    ((known_at old place ≡ None) × (now ≡ updated_at (walked answer) old place) × (log' ≡ log ++ r ∷ []))

-- only this requirement came to the listed ones, and then all its candidates are listed
pub record ListsOnly (r : Requirement) (variables : List ℕ) (old now : Listed) : Type 0 where
  pub kept : (q : Requirement) → is_listed old q ≡ true → is_listed now q ≡ true
  pub added : (q : Requirement) → is_listed now q ≡ true → (is_listed old q ≡ true) ⊎ ((q ≡ r) × HasAll r variables now)

module _ (val : Values) (literals : TrackedClause → List Lit) (rows_of : Requirement → List Row) where
  -- the frontier of an eligible clause
  abbrev pub eligible_frontier : TrackedClause → Option Frontier
  eligible_frontier c = if known_true (val c.parent) && are_literals_false val (literals c)
      then frontier val (rows_of c.requirement) else None

-- the clause may be eligible, as far as is known
abbrev pub may_be : Values → (TrackedClause → List Lit) → List Record → TrackedClause → Bool
may_be val literals ts c =
    known_true (val c.parent) && (are_literals_false val (literals c) && may_have_frontier (known_at ts c.record))

-- the clause as it was registered
abbrev pub clause_of : TrackedClause → RequiresClause
clause_of c = record {
  parent = c.parent;
  requirement = c.requirement;
  condition = c.condition;
  clause_id = c.clause_id;
}

-- a clause with its frontier
abbrev pub offer_with : (VersionSetId → ℕ) → TrackedClause → Frontier → Offer
offer_with score c f = record {
  clause = clause_of c;
  frontier = f;
  score = score f.set;
}

-- what a clause offers
abbrev pub offer_of : Values → (TrackedClause → List Lit) → (Requirement → List Row) → (VersionSetId → ℕ) →
    TrackedClause → Option Offer
offer_of val literals rows_of score c = option_map (offer_with score c) (eligible_frontier val literals rows_of c)
