-- What eligible clauses offer, and which offer is picked.
pub mod Grounds
pub mod Groups
pub mod Inspection
pub mod Questions
pub mod Ready
use Rattle.std.specs.Prelude.{◌≡◌, ℕ, Bool, false, not, ◌==◌, ◌&&◌, ◌||◌, nat_lt, if◌then◌else◌, List, [], filter}
use Rattle.std.specs.Prelude.{filter_map, fold, Option, None, Some, option_map, All, Contains, MatchOption}
use Rattle.resolvo_queue.specs.Types.{list_any, Lit, Requirement, RequiresClause, Values, VersionSetId}
pub use Rattle.resolvo_queue.specs.declared.offer.Offer.{Offer}
use Rattle.resolvo_queue.specs.declared.queue_decision.QueueDecision.{QueueDecision}
use Rattle.resolvo_queue.specs.Rows.{Row, frontier}
use Rattle.resolvo_queue.specs.Scan.{scan, is_open}

module _ (val : Values) (literals_of : Option ℕ → List Lit) (rows_of : Requirement → List Row)
    (score : VersionSetId → ℕ) where
  -- what a clause offers: none unless it is eligible; the score is that of its frontier's version set
  abbrev pub offer : RequiresClause → Option Offer
  offer c = if is_open val literals_of rows_of c then
      option_map (λ f. record { clause = c; frontier = f; score = score f.set }) (frontier val (rows_of c.requirement))
      else None

  -- the eligible clauses, in the order of the scan
  abbrev pub eligible : List RequiresClause → List Offer
  eligible cs = filter_map offer (scan cs)

-- a clause of the root
abbrev pub is_of_root : Offer → Bool
is_of_root o = o.clause.parent == 0

-- e has a higher score and a smaller count than b, and doesn't replace a clause of the root unless it is one
abbrev pub beats : Offer → Offer → Bool
beats e b = nat_lt b.score e.score && (nat_lt e.frontier.count b.frontier.count && (not (is_of_root b) || is_of_root e))

-- the better of what was picked so far and one more
abbrev pub better : Option Offer → Offer → Option Offer
better None e = Some e
better (Some b) e = Some (if beats e b then e else b)

-- the first, unless a later one beats the best so far
abbrev pub best_offer : List Offer → Option Offer
best_offer offers = fold better None offers

-- the best of the root's alone, if there is one of the root; else the best of all
abbrev pub pick : List Offer → Option Offer
pick offers = if list_any is_of_root offers then best_offer (filter is_of_root offers) else best_offer offers

-- the offer as the decision that is reported
abbrev pub decided : Offer → QueueDecision
decided o = record {
  candidate = o.frontier.variable;
  required_by = o.clause.parent;
  clause_id = o.clause.clause_id;
  package_activity = o.score;
  candidate_count = o.frontier.count;
}

-- ---- laws of the pick

-- no offer beats this one
abbrev pub IsUnbeaten : List Offer → Offer → Type 0
IsUnbeaten offers best = All (λ e. beats e best ≡ false) offers

-- the decision is that of an offer that no offer beats; no decision stands for no offers
abbrev pub DecidesUnbeaten : List Offer → Option QueueDecision → Type 0
DecidesUnbeaten offers decision = MatchOption decision (offers ≡ [])
    (λ d. (best : Offer) × (d ≡ decided best) × Contains offers best × IsUnbeaten offers best)
