-- What a question does to a queue that is ready, and what is queued tells of the offers.
use Rattle.std.proofs.Common.{◌≡◌, ◌≢◌, ℕ, Bool, true, false, ◌&&◌, cond, inl, inr}
use Rattle.std.proofs.Common.{List, get_or, Option, Some, None, IfSome, MatchOption}
use Rattle.std.proofs.Common.{is_some, option_map, slice_get, sym, ap, refl, ◌∙◌, subst}
use Rattle.std.proofs.lemmas.Option.{slice_get_within}
use Rattle.resolvo_queue.proofs.Words.{are_literals_false, AreLocated, beats, eligible_frontier, Frontier, frontier}
use Rattle.resolvo_queue.proofs.Words.{has, IsOfClause, IsPlaceOf, IsReady, Known, known_at, known_true, Learns, Lit}
use Rattle.resolvo_queue.proofs.Words.{LosesOnly, may_be, may_have_frontier, Offer, offer_of, offer_with, Position}
use Rattle.resolvo_queue.proofs.Words.{Queued, Record, Requirement, Row, rows_at, same_position, TrackedClause}
use Rattle.resolvo_queue.proofs.Words.{updated_at, Values, VersionSetId, walk_of, walked}
use Rattle.resolvo_queue.specs.Parts.{rows_in}
use Rattle.resolvo_queue.proofs.Syncs.Queued.{same_position_is, read_at}
use Rattle.resolvo_queue.proofs.Clauses.Records.{is_at_place, is_elsewhere}
use Rattle.resolvo_queue.proofs.Picks.Behind.{cold_beats_nothing}
use Rattle.resolvo_queue.proofs.Syncs.Law.{all_of, both_of, right_kept}
use Rattle.resolvo_queue.proofs.Lists.{same_or_not, same_some}

module _ (clauses : List TrackedClause) (literals : TrackedClause → List Lit) (rows_of : Requirement → List Row)
    (val : Values) where
  abbrev now_true : TrackedClause → Bool
  now_true c = known_true (val c.parent)

  abbrev Ready : List Record → Queued → Type 0
  Ready ts q = IsReady clauses literals rows_of val ts q

  -- ---- a walk

  module _ (ts : List Record) (q : Queued) (place : ℕ) (t : Record) (is : slice_get ts place ≡ Some t)
      (answer : Option Frontier) (right : answer ≡ frontier val (rows_of t.requirement)) where
    abbrev after : List Record
    after = updated_at (walked answer) ts place

    rows_kept : (k : ℕ) → rows_at rows_of after k ≡ rows_at rows_of ts k
    rows_kept k = elim (same_or_not k place) [
      | inl e ↦ ap (rows_at rows_of after) e ∙ (ap (rows_in rows_of) (is_at_place (walked answer) ts place t is) ∙
          (sym (ap (rows_in rows_of) is) ∙ sym (ap (rows_at rows_of ts) e)))
      | inr ne ↦ ap (rows_in rows_of) (is_elsewhere (walked answer) ts place k ne)
    ]

    elsewhere : (k : ℕ) → k ≢ place → known_at after k ≡ known_at ts k
    elsewhere k ne = ap walk_of (is_elsewhere (walked answer) ts place k ne)

    was_possible : known_at ts place ≡ None → (c : TrackedClause) → may_be val literals after c ≡ true →
        may_be val literals ts c ≡ true
    was_possible none c e = elim (same_or_not c.record place) [
      | inl p ↦ (let t = both_of (now_true c) _ e in
          all_of (now_true c) (are_literals_false val (literals c)) (may_have_frontier (known_at ts c.record)) t.0
          (both_of (are_literals_false val (literals c)) _ t.1).0 (ap may_have_frontier (ap (known_at ts) p ∙ none)))
      | inr ne ↦ ap (λ w. now_true c && (are_literals_false val (literals c) && may_have_frontier w))
          (sym (elsewhere c.record ne)) ∙ e
    ]

    right_after : (k : ℕ) → IfSome (known_at ts k) (λ f. f ≡ frontier val (rows_at rows_of ts k)) →
        IfSome (known_at after k) (λ f. f ≡ frontier val (rows_at rows_of after k))
    right_after k old = elim (same_or_not k place) [
      | inl e ↦ subst (λ w. IfSome w (λ f. f ≡ frontier val (rows_at rows_of after k)))
          (sym (ap (known_at after) e ∙ ap walk_of (is_at_place (walked answer) ts place t is)))
          (right ∙ ap (λ o. frontier val (rows_in rows_of o)) (sym (ap (slice_get ts) e ∙ is)) ∙
          ap (frontier val) (sym (rows_kept k)))
      | inr ne ↦ right_kept val (rows_at rows_of ts k) (rows_at rows_of after k) (known_at ts k) (known_at after k)
          (elsewhere k ne) (λ known. rows_kept k) old
    ]

    pub walk_ready : known_at ts place ≡ None → Ready ts q → Ready after q
    walk_ready none old = record {
      synced = record {
        queued = λ n c at e. old.synced.queued n c at (was_possible none c e);
        right = λ k. right_after k (old.synced.right k);
      };
      placed = λ n c e. placed_after c.requirement c.record (old.placed n c e);
      all_of = old.all_of;
      hot_of = old.hot_of;
    }
      where
        placed_after : (r : Requirement) (k : ℕ) → IsPlaceOf ts r k → IsPlaceOf after r k
        placed_after r k p = elim (same_or_not k place) [
          | inl e ↦ (
            walked answer p.0,
            subst (λ x. slice_get after x ≡ Some (walked answer p.0)) (sym e)
                (is_at_place (walked answer) ts place p.0 (subst (λ x. slice_get ts x ≡ Some p.0) e p.1)),
            p.2,
          )
          | inr ne ↦ (p.0, is_elsewhere (walked answer) ts place k ne ∙ p.1, p.2)
        ]

  pub learns_ready : (ts ts' : List Record) (q : Queued) (r : Requirement) (place : ℕ) (answer : Option Frontier)
      (log log' : List Requirement) →
      IsPlaceOf ts r place → answer ≡ frontier val (rows_of r) → Learns r place answer ts ts' log log' →
      Ready ts q → Ready ts' q
  learns_ready ts ts' q r place answer log log' at right (inl same) old = subst (λ x. Ready x q) (sym same.0) old
  learns_ready ts ts' q r place answer log log' at right (inr more) old = subst (λ x. Ready x q) (sym more.1)
      (walk_ready ts q place at.0 at.1 answer (right ∙ ap (λ x. frontier val (rows_of x)) (sym at.2)) more.0 old)

  -- ---- a removal

  module _ (ts : List Record) (q q' : Queued) (p : Position) (n : ℕ) (c : TrackedClause)
      (is : slice_get clauses n ≡ Some c) (at : c.position ≡ p) (located : AreLocated clauses) (gone : LosesOnly p q q')
      (not_possible : may_be val literals ts c ≡ false) where
    -- another registered clause at this position is this one
    the_same : (m : ℕ) (d : TrackedClause) → slice_get clauses m ≡ Some d → same_position p d.position ≡ true → d ≡ c
    the_same m d e s =
        let positions : d.position ≡ c.position = sym (same_position_is p d.position s) ∙ sym at in
        let own : d.position.number ≡ m = ap (λ (x : Position). x.number) (located m d e) in
        let mine : c.position.number ≡ n = ap (λ (x : Position). x.number) (located n c is) in
        let numbers : m ≡ n = sym own ∙ (ap (λ (x : Position). x.number) positions ∙ mine) in
        same_some d c (sym e ∙ (ap (slice_get clauses) numbers ∙ is))

    stays : (set set' : List Position) → ((x : Position) → has set' x ≡ cond (same_position p x) false (has set x)) →
        (m : ℕ) (d : TrackedClause) → slice_get clauses m ≡ Some d → has set d.position ≡ true →
        may_be val literals ts d ≡ true → has set' d.position ≡ true
    stays set set' loses m d at queued e = go (same_position p d.position) refl
      where
        go : (b : Bool) → same_position p d.position ≡ b → has set' d.position ≡ true
        go true s = let bad : may_be val literals ts d ≡ false =
            ap (may_be val literals ts) (the_same m d at s) ∙ not_possible in cc
        go false s = loses d.position ∙ (ap (λ b. cond b false (has set d.position)) s ∙ queued)

    fewer : (set set' : List Position) → ((x : Position) → has set' x ≡ cond (same_position p x) false (has set x)) →
        (x : Position) → has set' x ≡ true → has set x ≡ true
    fewer set set' loses x e = go (same_position p x) refl
      where
        go : (b : Bool) → same_position p x ≡ b → has set x ≡ true
        go true s = let bad : has set' x ≡ false = loses x ∙ ap (λ b. cond b false (has set x)) s in cc
        go false s = sym (loses x ∙ ap (λ b. cond b false (has set x)) s) ∙ e

    pub removed_ready : Ready ts q → Ready ts q'
    removed_ready old = record {
      synced = record {
        queued = λ m d at e. (let was = old.synced.queued m d at e in record {
          all = stays q.all q'.all gone.all m d at was.all e;
          hot = λ h. stays q.hot q'.hot gone.hot m d at (was.hot h) e;
        });
        right = old.synced.right;
      };
      placed = old.placed;
      all_of = λ x e. old.all_of x (fewer q.all q'.all gone.all x e);
      hot_of = λ x e. old.hot_of x (fewer q.hot q'.hot gone.hot x e);
    }

  -- ---- what is queued tells of the offers

  module _ (score : VersionSetId → ℕ) (ts : List Record) (q : Queued) (ready : Ready ts q) where
    abbrev offers : TrackedClause → Option Offer
    offers c = offer_of val literals rows_of score c

    -- an eligible clause is one that may be eligible, as far as is known
    eligible_possible : (n : ℕ) (c : TrackedClause) → slice_get clauses n ≡ Some c → (f : Frontier) →
        eligible_frontier val literals rows_of c ≡ Some f → may_be val literals ts c ≡ true
    eligible_possible n c e f is = go (now_true c) (are_literals_false val (literals c)) is
      where
        place : IsPlaceOf ts c.requirement c.record
        place = ready.placed n c e

        rows_are : rows_at rows_of ts c.record ≡ rows_of c.requirement
        rows_are = ap (rows_in rows_of) place.1 ∙ ap rows_of place.2

        by_known : (k : Known) → IfSome k (λ g. g ≡ frontier val (rows_at rows_of ts c.record)) →
            frontier val (rows_of c.requirement) ≡ Some f → may_have_frontier k ≡ true
        by_known None h g = refl
        by_known (Some x) h g = ap is_some (h ∙ (ap (frontier val) rows_are ∙ g))

        go : (a b : Bool) → cond (a && b) (frontier val (rows_of c.requirement)) None ≡ Some f →
            (a && (b && may_have_frontier (known_at ts c.record))) ≡ true
        go true true g = by_known (known_at ts c.record) (ready.synced.right c.record) g
        go true false g = cc
        go false b g = cc

    pub unqueued_offers_nothing : (n : ℕ) (c : TrackedClause) → slice_get clauses n ≡ Some c →
        has q.all c.position ≡ false → offers c ≡ None
    unqueued_offers_nothing n c e out = go (eligible_frontier val literals rows_of c) refl
      where
        go : (o : Option Frontier) → eligible_frontier val literals rows_of c ≡ o →
            option_map (offer_with score c) o ≡ None
        go None h = refl
        go (Some f) h = let queued : has q.all c.position ≡ true =
            (ready.synced.queued n c e (eligible_possible n c e f h)).all in cc

    -- a clause that isn't among the hot ones offers nothing that is better, if what isn't hot has no score
    pub cold_offers_no_better : (b : Offer) (n : ℕ) (c : TrackedClause) → slice_get clauses n ≡ Some c →
        (c.is_hot ≡ false → (f : Frontier) → eligible_frontier val literals rows_of c ≡ Some f → score f.set ≡ 0) →
        has q.hot c.position ≡ false → IfSome (offers c) (λ e. beats e b ≡ false)
    cold_offers_no_better b n c e cold out = go (eligible_frontier val literals rows_of c) refl
      where
        by_heat : (f : Frontier) → eligible_frontier val literals rows_of c ≡ Some f → (h : Bool) → c.is_hot ≡ h →
            beats (offer_with score c f) b ≡ false
        by_heat f g true h = let queued : has q.hot c.position ≡ true =
            (ready.synced.queued n c e (eligible_possible n c e f g)).hot h in cc
        by_heat f g false h = cold_beats_nothing b (offer_with score c f) (cold h f g)

        go : (o : Option Frontier) → eligible_frontier val literals rows_of c ≡ o →
            IfSome (option_map (offer_with score c) o) (λ x. beats x b ≡ false)
        go None h = tt
        go (Some f) h = by_heat f h c.is_hot refl

-- ---- looking at one clause

module _ (clauses : List TrackedClause) (literals : TrackedClause → List Lit)
    (rows_of : Requirement → List Row) (val : Values)
    (ts : List Record) (q : Queued) (ready : IsReady clauses literals rows_of val ts q) (n : ℕ) (c : TrackedClause)
    (is : slice_get clauses n ≡ Some c) where
  pub known_is_right : (f : Option Frontier) → known_at ts c.record ≡ Some f → f ≡ frontier val (rows_of c.requirement)
  known_is_right f e =
      let place = ready.placed n c is in
      let rows_are : rows_at rows_of ts c.record ≡ rows_of c.requirement =
      ap (rows_in rows_of) place.1 ∙ ap rows_of place.2 in
      subst (λ k. IfSome k (λ g. g ≡ frontier val (rows_at rows_of ts c.record))) e (ready.synced.right c.record) ∙
      ap (frontier val) rows_are

  -- what is told of the clause is told of whatever is read at its number
  pub frontier_read : (found : Option Frontier) → found ≡ eligible_frontier val literals rows_of c →
      (d : TrackedClause) → slice_get clauses n ≡ Some d → found ≡ eligible_frontier val literals rows_of d
  frontier_read found e d s = e ∙ ap (eligible_frontier val literals rows_of) (same_some c d (sym is ∙ s))

  module _ (ts' : List Record) (log log' : List Requirement)
      (learns : Learns c.requirement c.record (frontier val (rows_of c.requirement)) ts ts' log log') where
    pub looked_ready : IsReady clauses literals rows_of val ts' q
    looked_ready = learns_ready clauses literals rows_of val ts ts' q c.requirement c.record
        (frontier val (rows_of c.requirement)) log log' (ready.placed n c is) refl learns ready

    pub dropped_ready : AreLocated clauses → (q' : Queued) (p : Position) → IsOfClause clauses p → p.number ≡ n →
        LosesOnly p q q' → may_be val literals ts' c ≡ false → IsReady clauses literals rows_of val ts' q'
    dropped_ready located q' p of number gone not_possible =
        let same : of.0 ≡ c = same_some of.0 c (sym of.1 ∙ (ap (slice_get clauses) number ∙ is)) in
        removed_ready clauses literals rows_of val ts' q q' p n c is
        (ap (λ (x : TrackedClause). x.position) (sym same) ∙ of.2) located gone not_possible looked_ready

-- what was read at a clause's position is that clause
pub read_here : (clauses : List TrackedClause) (p : Position) → IsOfClause clauses p → (c : TrackedClause) →
    c ≡ get_or clauses p.number c → slice_get clauses p.number ≡ Some c
read_here clauses p of c e = read_at clauses p.number c (slice_get_within clauses p.number of.0 of.1) e

pub match_some : {T : Type 0} (o : Option T) (x : T) (P : Type 0) (Q : T → Type 0) → o ≡ Some x →
    MatchOption o P Q → Q x
match_some None x P Q e h = cc
match_some (Some y) x P Q e h = subst Q (same_some y x e) h

pub match_none : {T : Type 0} (o : Option T) (P : Type 0) (Q : T → Type 0) → o ≡ None → MatchOption o P Q → P
match_none None P Q e h = h
match_none (Some x) P Q e h = cc

-- an eligible clause offers what goes with its frontier
pub offer_found : (literals : TrackedClause → List Lit) (rows_of : Requirement → List Row) (val : Values)
    (score : VersionSetId → ℕ)
    (found : Option Frontier) (f : Frontier) (o : Offer) (d : TrackedClause) → found ≡ Some f →
    found ≡ eligible_frontier val literals rows_of d →
    o ≡ offer_with score d f → ◌≡◌ {A = Option Offer} (Some o) (offer_of val literals rows_of score d)
offer_found literals rows_of val score found f o d is e with_it =
    ap Some with_it ∙ ap (option_map (offer_with score d)) (sym is ∙ e)
