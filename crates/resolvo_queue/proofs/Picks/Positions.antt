-- The best along the scan, found by going through the positions that count: what doesn't count offers nothing, or
-- nothing better.
use Rattle.std.proofs.Common.{◌≡◌, ℕ, Bool, true, false, List, filter_map, fold, Option, Some}
use Rattle.std.proofs.Common.{None, IfSome, slice_get, sym, ap, refl, ◌∙◌, subst, is_gt}
use Rattle.resolvo_queue.proofs.Words.{AreLocated, at_position, beats, behind, best_offer, better, cons_option, Greater}
use Rattle.resolvo_queue.proofs.Words.{improved, is_after, IsBefore, Less, Offer, offered, ordering_reverse, place_of}
use Rattle.resolvo_queue.proofs.Words.{Position, position_cmp, rest_picked, scanned, Stands, TrackedClause}
use Rattle.resolvo_queue.proofs.Syncs.Queued.{position_order}
use Rattle.resolvo_queue.proofs.Picks.NumberedScan.{scan_ascends, scanned_at, at_scanned}
use Rattle.resolvo_queue.proofs.Picks.Behind.{first_picked, next_better, none_better, none_offered, Ascends}
use Rattle.resolvo_queue.proofs.Lists.{no_or_yes, differ}

after_not_before : (p r : Position) → is_after p r ≡ false → position_cmp r p ≡ Less → ⊥
after_not_before p r h e =
    let reversed : position_cmp p r ≡ Greater = position_order.antisymm p r ∙ ap ordering_reverse e in
    let after : is_after p r ≡ true = ap is_gt reversed in
    differ (sym after ∙ h)

module _ (clauses : List TrackedClause) (located : AreLocated clauses) (offers : TrackedClause → Option Offer) where
  abbrev item_offer : ℕ × TrackedClause → Option Offer
  item_offer x = offers x.1

  abbrev place : ℕ × TrackedClause → Position
  place = place_of clauses

  ascends : Ascends position_cmp place (scanned clauses)
  ascends = scan_ascends (λ (c : TrackedClause). c.parent) position_cmp at_position (λ a b c d. refl) clauses

  item_at : (x : ℕ × TrackedClause) → Stands x (scanned clauses) → slice_get clauses x.0 ≡ Some x.1
  item_at x s = scanned_at (λ (c : TrackedClause). c.parent) clauses x s

  own_place : (x : ℕ × TrackedClause) → Stands x (scanned clauses) → x.1.position ≡ place x
  own_place x s = located x.0 x.1 (item_at x s)

  -- what doesn't count offers nothing
  module _ (counts : Position → Bool) (nothing : (n : ℕ) (c : TrackedClause) → slice_get clauses n ≡ Some c →
      counts c.position ≡ false → offers c ≡ None) where
    -- nothing counts: there is no best
    pub none_counts : ((p : Position) → counts p ≡ false) → best_offer (offered clauses offers) ≡ None
    none_counts empty = none_offered position_cmp position_order place item_offer (scanned clauses)
        (λ x s. nothing x.0 x.1 (item_at x s) (empty x.1.position))

    -- the first that counts offers: it is the best so far
    pub first_counts : (p : Position) (c : TrackedClause) (o : Offer) → slice_get clauses p.number ≡ Some c →
        c.position ≡ p → offers c ≡ Some o → ((r : Position) → counts r ≡ true → is_after p r ≡ false) →
        best_offer (offered clauses offers) ≡ rest_picked clauses offers o p
    first_counts p c o is at offered least =
        let here_it_is : place (p.number, c) ≡ p = sym (located p.number c is) ∙ at in
        first_picked position_cmp position_order place item_offer (scanned clauses) ascends (p.number, c) o
        (at_scanned (λ (d : TrackedClause). d.parent) clauses p.number c is) offered
        (λ y s below. nothing y.0 y.1 (item_at y s)
        (no_or_yes (counts y.1.position) (λ queued. after_not_before p y.1.position (least y.1.position queued)
        (subst (λ r. position_cmp r p ≡ Less) (sym (own_place y s))
        (subst (λ r. position_cmp (place y) r ≡ Less) here_it_is below)))))
        ∙ ap (rest_picked clauses offers o) here_it_is

  -- what doesn't count offers nothing that is better
  module _ (counts : Position → Bool) (b : Offer)
      (out : (n : ℕ) (c : TrackedClause) → slice_get clauses n ≡ Some c → counts c.position ≡ false →
      IfSome (offers c) (λ e. beats e b ≡ false)) where
    pub next_counts : (cursor p : Position) (c : TrackedClause) → slice_get clauses p.number ≡ Some c → c.position ≡ p →
        IsBefore cursor p → ((r : Position) → counts r ≡ true → IsBefore cursor r → is_after p r ≡ false) →
        rest_picked clauses offers b cursor ≡ rest_picked clauses offers (improved b (offers c)) p
    next_counts cursor p c is at before least =
        let here_it_is : place (p.number, c) ≡ p = sym (located p.number c is) ∙ at in
        next_better position_cmp position_order place item_offer (scanned clauses) ascends b cursor (p.number, c)
        (at_scanned (λ (d : TrackedClause). d.parent) clauses p.number c is)
        (subst (λ r. position_cmp cursor r ≡ Less) (sym here_it_is) before)
        (λ y s above below. out y.0 y.1 (item_at y s)
        (no_or_yes (counts y.1.position) (λ queued. after_not_before p y.1.position
        (least y.1.position queued (subst (λ r. position_cmp cursor r ≡ Less) (sym (own_place y s)) above))
        (subst (λ r. position_cmp r p ≡ Less) (sym (own_place y s))
        (subst (λ r. position_cmp (place y) r ≡ Less) here_it_is below)))))
        ∙ (one_more (offers c) (filter_map item_offer
        (behind position_cmp place item_offer (place (p.number, c)) (scanned clauses)))
        ∙ ap (rest_picked clauses offers (improved b (offers c))) here_it_is)
      where
        one_more : (o : Option Offer) (es : List Offer) →
            fold better (Some b) (cons_option o es) ≡ fold better (Some (improved b o)) es
        one_more None es = refl
        one_more (Some e) es = refl

    -- nothing behind counts: the best so far is the best
    pub last_counts : (cursor : Position) → ((r : Position) → IsBefore cursor r → counts r ≡ false) →
        rest_picked clauses offers b cursor ≡ Some b
    last_counts cursor none = none_better position_cmp position_order place item_offer (scanned clauses) b cursor
        (λ y s above. out y.0 y.1 (item_at y s)
        (none y.1.position (subst (λ r. position_cmp cursor r ≡ Less) (sym (own_place y s)) above)))

  -- nothing can be better: the best so far is the best
  pub unbeatable_picked : (b : Offer) (cursor : Position) →
      ((n : ℕ) (c : TrackedClause) → slice_get clauses n ≡ Some c → IfSome (offers c) (λ e. beats e b ≡ false)) →
      rest_picked clauses offers b cursor ≡ Some b
  unbeatable_picked b cursor out = none_better position_cmp position_order place item_offer
      (scanned clauses) b cursor (λ y s above. out y.0 y.1 (item_at y s))
