-- What a question requires of the tracked clauses, what it changes of them, and what it and a reader give.
use Rattle.std.specs.Prelude.{◌≡◌, ℕ, List, Option, None, Some, MatchOption, slice_get}
use Rattle.resolvo_queue.specs.Types.{Frontier, Position, Requirement, TrackedClause, Universe, Values, values_in}
use Rattle.resolvo_queue.specs.Types.{VersionSetId}
use Rattle.resolvo_queue.specs.Rows.Listing.{IsListedWell}
use Rattle.resolvo_queue.specs.Occurrences.{Reading}
use Rattle.resolvo_queue.specs.Pick.Questions.{CanInspectAll, clause_literals}
use Rattle.resolvo_queue.specs.Pick.Ready.{AreLocated, IsReady, ColdHasNoScore, improved, offered, rest_picked}
use Rattle.resolvo_queue.specs.References.{References, rows_in, references}
use Rattle.resolvo_queue.specs.Parts.{OwesSame, SameFound, Record, known_at}
use Rattle.resolvo_queue.specs.Parts.Tracking.{BeginFirst}
use Rattle.resolvo_queue.specs.WalkCounts.{WalksOnce}
use Rattle.resolvo_queue.specs.declared.tracked_clauses.TrackedClauses.{TrackedClauses}
use Rattle.resolvo_queue.specs.Pick.{Offer, best_offer}
use Rattle.resolvo_queue.specs.Pick.Inspection.{Learns, eligible_frontier, offer_of}
use Rattle.resolvo_queue.specs.Rows.{frontier}
use Rattle.resolvo_queue.specs.declared.questions.Question.{Question}
use Rattle.resolvo_queue.specs.declared.offer.Candidate.{Candidate}

-- all clauses can be inspected, and each that may be eligible is queued
pub record CanDecide {N S A : Type 0} (refs : References N S A) (val : Values)
    (tracked : TrackedClauses A) : Type 0 where
  pub located : AreLocated tracked.index.clauses.items
  pub first : BeginFirst tracked.index.clauses.items tracked.index.by_parent
  pub inspectable : CanInspectAll refs tracked.index.clauses.items
  pub listed : IsListedWell refs.lists tracked.occurrences tracked.requirements
  pub ready : IsReady tracked.index.clauses.items (clause_literals refs)
      (rows_in refs) val tracked.requirements tracked.queued

-- requirements were walked, each once and after it was listed; but for that, and for what is queued, all is as it was
pub record OnlyWalks {A : Type 0} (old now : TrackedClauses A) (before after : Reading A) : Type 0 where
  pub once : WalksOnce old.requirements now.requirements before.walked after.walked
  pub owes : OwesSame old.requirements now.requirements
  pub found : SameFound old.requirements now.requirements
  pub index : now.index ≡ old.index
  pub only_hot : now.only_hot ≡ old.only_hot
  pub trail : now.trail ≡ old.trail
  pub anew : now.must_start_anew ≡ old.must_start_anew
  pub lists : after.lists ≡ before.lists

-- what clauses name, the values of variables, and the scores of version sets
pub record Grounds (N S A : Type 0) : Type 0 where
  pub refs : References N S A
  pub val : Values
  pub score : VersionSetId → ℕ

-- I are the interners, C the maps of scores; V to Z are types of an interner that nothing here is about
module _ {I A N S C V W X Y Z : Type 0} (universe : I → Universe N S) (value_at : C → N → ℕ)
    (question : Question I A N S V C W X Y Z) where
  -- a version set's score is its package's
  abbrev pub score_by : VersionSetId → ℕ
  score_by set = value_at question.scores.now ((universe question.interner.now).set_name set)

  -- what a question and a reader give
  abbrev pub grounds : Reading A → Grounds N S A
  grounds reading = record {
    refs = references (universe question.interner.now) reading.lists question.disjunctions.now;
    val = values_in question.map.now;
    score = score_by;
  }

module _ {N S A : Type 0} (on : Grounds N S A) where
  -- the frontier of a requirement
  abbrev pub frontier_on : Requirement → Option Frontier
  frontier_on r = frontier on.val (rows_in on.refs r)

  -- that of an eligible clause
  abbrev pub eligible_on : TrackedClause → Option Frontier
  eligible_on c = eligible_frontier on.val (clause_literals on.refs) (rows_in on.refs) c

  -- what a clause offers
  abbrev pub offers_on : TrackedClause → Option Offer
  offers_on c = offer_of on.val (clause_literals on.refs) (rows_in on.refs) on.score c

  -- the frontier, if it is eligible, of the clause at a position
  abbrev pub EligibleAt : TrackedClauses A → Position → Option Frontier → Type 0
  EligibleAt tracked p found =
      (c : TrackedClause) → slice_get tracked.index.clauses.items p.number ≡ Some c → found ≡ eligible_on c

  -- the better of an offer and of what the clause at a position offers
  abbrev pub ImprovedBy : TrackedClauses A → Position → Offer → Offer → Type 0
  ImprovedBy tracked p old new =
      (c : TrackedClause) → slice_get tracked.index.clauses.items p.number ≡ Some c → new ≡ improved old (offers_on c)

  -- all clauses can be inspected, and each that may be eligible is queued
  abbrev pub CanDecideOn : TrackedClauses A → Type 0
  CanDecideOn tracked = CanDecide on.refs on.val tracked

  -- a clause that isn't hot has no score
  abbrev pub ColdOn : TrackedClauses A → Type 0
  ColdOn tracked =
      ColdHasNoScore tracked.index.clauses.items (clause_literals on.refs) (rows_in on.refs) on.val on.score

  -- what is known of a clause's rows is right
  abbrev pub RightOn : List Record → TrackedClause → Type 0
  RightOn ts c = (f : Option Frontier) → known_at ts c.record ≡ Some f → f ≡ frontier_on c.requirement

  -- nothing changed, or a clause's requirement was walked, of which nothing was known
  abbrev pub LearnsOn : TrackedClause → List Record → List Record → Reading A → Reading A → Type 0
  LearnsOn c ts ts' before after =
      Learns c.requirement c.record (frontier_on c.requirement) ts ts' before.walked after.walked

-- ---- what a group of clauses makes of the pick

module _ (clauses : List TrackedClause) (offers : TrackedClause → Option Offer) where
  -- the pick goes on behind the first that offers something, if there is one
  abbrev pub BeginsPick : Option Candidate → Type 0
  BeginsPick first = MatchOption first (best_offer (offered clauses offers) ≡ None)
      (λ b. best_offer (offered clauses offers) ≡ rest_picked clauses offers b.offer b.position)

  -- what those behind a first one make of its offer
  abbrev pub BestFrom : Candidate → Option Offer → Type 0
  BestFrom first best = best ≡ rest_picked clauses offers first.offer first.position
