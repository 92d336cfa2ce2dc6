-- Groups of clauses, and the root's clauses as one.
use Rattle.std.proofs.Common.{◌≡◌, ℕ, ◌+◌, Bool, true, false, ◌&&◌, cond, eqb, eqb-true, eq-eqb, List, []}
use Rattle.std.proofs.Common.{◌∷◌, filter, filter_map, Option, Some, None, IfSome, MatchOption}
use Rattle.std.proofs.Common.{option_map, slice_get, sym, ap, ap₂, refl, ◌∙◌, subst, arith}
use Rattle.resolvo_queue.proofs.Words.{AreLocated, BeginFirst, best_offer, cons_option}
use Rattle.resolvo_queue.proofs.Words.{eligible_frontier, first_from, Frontier, Group, has, has_of}
use Rattle.resolvo_queue.proofs.Words.{HasNoClause, here, is_after, is_in, is_of_root, IsFirstOf, IsNextBehind}
use Rattle.resolvo_queue.proofs.Words.{IsNextOf, list_at, Lit, Offer, offer_of, offer_with, offered, offers_of}
use Rattle.resolvo_queue.proofs.Words.{OfParent, only_in, Position, Requirement}
use Rattle.resolvo_queue.proofs.Words.{Row, scanned, Stands, there, TrackedClause, Values}
use Rattle.resolvo_queue.proofs.Words.{VersionSetId}
use Rattle.resolvo_queue.proofs.Picks.NumberedScan.{first_is_own, scanned_at}
use Rattle.resolvo_queue.proofs.Lists.{same_some}

-- what is of a group, and in a set, is in the set
pub of_both : (group : Group) (set : List Position) (p : Position) → has_of group set p ≡ true →
    (is_in group p ≡ true) × (has set p ≡ true)
of_both group set p e = go (is_in group p) (has set p) e
  where
    go : (a b : Bool) → (a && b) ≡ true → (a ≡ true) × (b ≡ true)
    go true b h = (refl, h)
    go false b h = cc

-- what a clause of the group offers is its offer
pub own_offer : (group : Group) (offers : TrackedClause → Option Offer) (c : TrackedClause) (p : Position) →
    c.position ≡ p → is_in group p ≡ true → offers_of group offers c ≡ offers c
own_offer group offers c p at of = ap (λ b. cond b (offers c) None) (ap (is_in group) at ∙ of)

-- the first that counts, kept if it is of the group, is the first of the group that counts
pub only_least : (group : Group) (set : List Position) (Counts : Position → Type 0) (found : Option Position) →
    IfSome found (λ f. (p : Position) → has set p ≡ true → Counts p → is_after f p ≡ false) →
    IfSome (only_in group found) (λ f. (p : Position) → has_of group set p ≡ true → Counts p → is_after f p ≡ false)
only_least group set Counts None least = tt
only_least group set Counts (Some f) least = go (is_in group f)
  where
    go : (b : Bool) → IfSome (cond b (Some f) None) (λ x. (p : Position) → has_of group set p ≡ true → Counts p →
        is_after x p ≡ false)
    go true = λ p h c. least p (of_both group set p h).1 c
    go false = tt

-- of the first two that stand in the set, those of the group are the group's
pub only_next : (group : Group) (set now : List Position) → set ≡ now → (first second : Option Position) →
    IfSome first (λ f. IfSome second (λ s. IsNextBehind set f s)) →
    (kept : Option Position × Option Position) → kept.0 ≡ only_in group first → kept.1 ≡ only_in group second →
    IfSome kept.0 (λ f. IfSome kept.1 (λ s. IsNextOf group now f s))
only_next group set now same first second next kept kept_first kept_second =
    subst (λ o. IfSome o (λ f. IfSome kept.1 (λ s. IsNextOf group now f s))) (sym kept_first)
    (subst (λ o. IfSome (only_in group first) (λ f. IfSome o (λ s. IsNextOf group now f s))) (sym kept_second)
    (subst (λ ps. IfSome (only_in group first) (λ f. IfSome (only_in group second) (λ s. IsNextOf group ps f s))) same
    (go first second next)))
  where
    both : (a b : Bool) (f s : Position) → is_in group s ≡ b → IsNextBehind set f s →
        IfSome (cond a (Some f) None) (λ x. IfSome (cond b (Some s) None) (λ y. IsNextOf group set x y))
    both true true f s of h = record {
      there = ap₂ (λ x y. x && y) of h.there;
      behind = h.behind;
      least = λ r k. h.least r (of_both group set r k).1;
    }
    both true false f s of h = tt
    both false b f s of h = tt

    one : (a : Bool) (f : Position) →
        IfSome (cond a (Some f) None) (λ x. IfSome (only_in group None) (λ y. IsNextOf group set x y))
    one true f = tt
    one false f = tt

    go : (first second : Option Position) → IfSome first (λ f. IfSome second (λ s. IsNextBehind set f s)) →
        IfSome (only_in group first) (λ f. IfSome (only_in group second) (λ s. IsNextOf group set f s))
    go None second h = tt
    go (Some f) None h = one (is_in group f) f
    go (Some f) (Some s) h = both (is_in group f) (is_in group s) f s refl h

-- ---- the root's clauses

module _ (clauses : List TrackedClause) (located : AreLocated clauses) (by_parent : List (List ℕ))
    (begin : BeginFirst clauses by_parent) (offers : TrackedClause → Option Offer) (owned : (c : TrackedClause) →
    IfSome (offers c) (λ o. o.clause.parent ≡ c.parent)) where
  -- who begins as the root's first clause is one of the root's, and nobody else
  begins_alike : (first : ℕ) → IsFirstOf clauses 0 first → (n : ℕ) (c : TrackedClause) → slice_get clauses n ≡ Some c →
      is_in (OfParent first) c.position ≡ eqb c.parent 0
  begins_alike first is n c e = go (eqb c.parent 0) refl
    where
      begins : c.position.first_of_parent ≡ first_from (λ (d : TrackedClause). d.parent) 0 clauses c.parent
      begins = ap (λ (p : Position). p.first_of_parent) (located n c e)

      go : (b : Bool) → eqb c.parent 0 ≡ b → eqb c.position.first_of_parent first ≡ b
      go true h = eq-eqb c.position.first_of_parent first (begins
          ∙ (ap (first_from (λ (d : TrackedClause). d.parent) 0 clauses) (eqb-true c.parent 0 h) ∙ sym is.first))
      go false h = no (eqb c.position.first_of_parent first) refl
        where
          no : (b : Bool) → eqb c.position.first_of_parent first ≡ b → b ≡ false
          no false q = refl
          no true q =
              let same : c.position.first_of_parent ≡ first = eqb-true c.position.first_of_parent first q in
              let own : is.clause.parent ≡ c.parent =
              first_is_own (λ (d : TrackedClause). d.parent) 0 clauses n c e first is.clause
              (let from : 0 + first ≡ first = omega arith in from ∙ (sym same ∙ begins)) is.at in
              let bad : eqb c.parent 0 ≡ true = eq-eqb c.parent 0 (sym own ∙ is.own) in
              cc

  -- what the clauses of a group offer, where these are the root's
  kept_of : (group : Group) (xs : List (ℕ × TrackedClause)) →
      ((x : ℕ × TrackedClause) → Stands x xs → is_in group x.1.position ≡ eqb x.1.parent 0) →
      filter_map (λ x. offers_of group offers x.1) xs ≡
      filter is_of_root (filter_map (λ (x : ℕ × TrackedClause). offers x.1) xs)
  kept_of group [] alike = refl
  kept_of group (x ∷ xs) alike =
      ap₂ cons_option (ap (λ b. cond b (offers x.1) None) (alike x here)) (kept_of group xs (λ y s. alike y (there s)))
      ∙ one (offers x.1) (owned x.1) (filter_map (λ (y : ℕ × TrackedClause). offers y.1) xs)
    where
      one : (o : Option Offer) → IfSome o (λ f. f.clause.parent ≡ x.1.parent) → (es : List Offer) →
          cons_option (cond (eqb x.1.parent 0) o None) (filter is_of_root es) ≡ filter is_of_root (cons_option o es)
      one None own es = none (eqb x.1.parent 0)
        where
          none : (b : Bool) → cons_option (cond b None None) (filter is_of_root es) ≡ filter is_of_root es
          none true = refl
          none false = refl
      one (Some f) own es = some (eqb x.1.parent 0) (ap (λ p. eqb p 0) own)
        where
          some : (b : Bool) → is_of_root f ≡ b → cons_option (cond b (Some f) None) (filter is_of_root es) ≡
              cond (is_of_root f) (f ∷ filter is_of_root es) (filter is_of_root es)
          some true h = sym (ap (λ b. cond b (f ∷ filter is_of_root es) (filter is_of_root es)) h)
          some false h = sym (ap (λ b. cond b (f ∷ filter is_of_root es) (filter is_of_root es)) h)

  item_at : (x : ℕ × TrackedClause) → Stands x (scanned clauses) → slice_get clauses x.0 ≡ Some x.1
  item_at x s = scanned_at (λ (c : TrackedClause). c.parent) clauses x s

  -- the root's clauses as a group
  of_root : (o : Option ℕ) (group : Group) → slice_get (list_at by_parent 0) 0 ≡ o →
      option_map OfParent o ≡ Some group →
      offered clauses (offers_of group offers) ≡ filter is_of_root (offered clauses offers)
  of_root None group e is = cc
  of_root (Some first) group e is =
      subst (λ g. offered clauses (offers_of g offers) ≡ filter is_of_root (offered clauses offers))
      (same_some (OfParent first) group is) (kept_of (OfParent first) (scanned clauses)
      (λ x s. begins_alike first (subst (λ o. MatchOption o (HasNoClause clauses 0) (IsFirstOf clauses 0)) e (begin 0))
      x.0 x.1 (item_at x s)))

  -- nothing is of the root, where it has no clause
  none_of_root : (xs : List (ℕ × TrackedClause)) → ((x : ℕ × TrackedClause) → Stands x xs → eqb x.1.parent 0 ≡ false) →
      filter is_of_root (filter_map (λ (x : ℕ × TrackedClause). offers x.1) xs) ≡ []
  none_of_root [] others = refl
  none_of_root (x ∷ xs) others = one (offers x.1) (filter_map (λ (y : ℕ × TrackedClause). offers y.1) xs) (owned x.1)
      (none_of_root xs (λ y s. others y (there s)))
    where
      one : (o : Option Offer) (es : List Offer) → IfSome o (λ f. f.clause.parent ≡ x.1.parent) →
          filter is_of_root es ≡ [] → filter is_of_root (cons_option o es) ≡ []
      one None es own rest = rest
      one (Some f) es own rest = ap (λ b. cond b (f ∷ filter is_of_root es) (filter is_of_root es))
          (ap (λ p. eqb p 0) own ∙ others x here) ∙ rest

  without_root : slice_get (list_at by_parent 0) 0 ≡ None → filter is_of_root (offered clauses offers) ≡ []
  without_root e =
      let none : HasNoClause clauses 0 =
      subst (λ o. MatchOption o (HasNoClause clauses 0) (IsFirstOf clauses 0)) e (begin 0) in
      none_of_root (scanned clauses) (λ x s. none x.0 x.1 (item_at x s))

  -- the best of the root's: that of its clauses as a group
  pub best_of_group : (of : Option Group) (group : Group) →
      of ≡ option_map OfParent (slice_get (list_at by_parent 0) 0) → of ≡ Some group →
      best_offer (offered clauses (offers_of group offers)) ≡ best_offer (filter is_of_root (offered clauses offers))
  best_of_group of group first is = ap best_offer
      (of_root (slice_get (list_at by_parent 0) 0) group refl (sym first ∙ is))

  pub best_of_none : (of : Option Group) → of ≡ option_map OfParent (slice_get (list_at by_parent 0) 0) → of ≡ None →
      best_offer (filter is_of_root (offered clauses offers)) ≡ None
  best_of_none of first none = ap best_offer
      (without_root (unmapped (slice_get (list_at by_parent 0) 0) (sym first ∙ none)))
    where
      unmapped : (o : Option ℕ) → option_map OfParent o ≡ None → o ≡ None
      unmapped None e = refl
      unmapped (Some n) e = cc

-- what a clause offers is its own
pub offers_own : (val : Values) (literals : TrackedClause → List Lit) (rows_of : Requirement → List Row)
    (score : VersionSetId → ℕ) (c : TrackedClause) →
    IfSome (offer_of val literals rows_of score c) (λ o. o.clause.parent ≡ c.parent)
offers_own val literals rows_of score c = go (eligible_frontier val literals rows_of c)
  where
    go : (o : Option Frontier) → IfSome (option_map (offer_with score c) o) (λ f. f.clause.parent ≡ c.parent)
    go None = tt
    go (Some f) = refl
