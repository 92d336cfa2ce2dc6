-- The best needs no more than the first offer and, behind it, the items that can beat the best so far.
use Rattle.std.proofs.Common.{◌≡◌, ℕ, ◌≤◌, Bool, false, not, ◌&&◌, ◌||◌, cond, ltb, List, [], ◌∷◌, filter_map}
use Rattle.std.proofs.Common.{fold, map, Option, Some, None, IfSome, sym, ap, subst, refl, ◌∙◌, arith}
use Rattle.std.proofs.lemmas.Bool.Decides.{nat_tests}
use Rattle.std.specs.List.Sorted.{IsStrictlySortedBy}
use Rattle.resolvo_queue.proofs.Words.{AllByRecursion, beats, behind, best_offer, better, cons_option, Equal, Greater}
use Rattle.resolvo_queue.proofs.Words.{here, is_lt, is_of_root, IsTotalOrder, Less, Offer, Ordering}
use Rattle.resolvo_queue.proofs.Words.{ordering_reverse, picked_behind, Stands, there}

module _ {X K : Type 0} (cmp : K → K → Ordering) (key : X → K) (offer_of : X → Option Offer) where
  -- the item offers nothing that beats the best so far
  abbrev pub OffersNoBetter : Offer → X → Type 0
  OffersNoBetter best x = IfSome (offer_of x) (λ e. beats e best ≡ false)

-- each key is below those after it
abbrev pub Ascends : {X K : Type 0} → (K → K → Ordering) → (X → K) → List X → Type 0
Ascends cmp key xs = IsStrictlySortedBy cmp (map key xs)

-- ---- offers that can't beat the best

-- over plain variables: scores s of the best and t of another, counts c and d, whether they are the root's
by_count : (s t c d : ℕ) (x y : Bool) → c ≤ d → (ltb s t && (ltb d c && (not x || y))) ≡ false
by_count s t c d x y h = grind (arith, nat_tests)

by_largest : (s t c d m : ℕ) (x y : Bool) → s ≡ m → t ≤ m → (ltb s t && (ltb d c && (not x || y))) ≡ false
by_largest s t c d m x y e h = grind (arith, nat_tests)

by_cold : (s t c d : ℕ) (x y : Bool) → t ≡ 0 → (ltb s t && (ltb d c && (not x || y))) ≡ false
by_cold s t c d x y e = grind (arith, nat_tests)

-- what has no fewer candidates isn't better
pub no_fewer_unbeaten : (b e : Offer) → b.frontier.count ≤ e.frontier.count → beats e b ≡ false
no_fewer_unbeaten b e h = by_count b.score e.score b.frontier.count e.frontier.count (is_of_root b) (is_of_root e) h

-- a count of one can't be beaten
pub one_unbeaten : (b e : Offer) → b.frontier.count ≡ 1 → 1 ≤ e.frontier.count → beats e b ≡ false
one_unbeaten b e p h = no_fewer_unbeaten b e (subst (λ n. n ≤ e.frontier.count) (sym p) h)

-- nor can the largest score
pub largest_unbeaten : (largest : ℕ) (b e : Offer) → b.score ≡ largest → e.score ≤ largest → beats e b ≡ false
largest_unbeaten largest b e p h =
    by_largest b.score e.score b.frontier.count e.frontier.count largest (is_of_root b) (is_of_root e) p h

-- an offer without a score beats nothing
pub cold_beats_nothing : (b e : Offer) → e.score ≡ 0 → beats e b ≡ false
cold_beats_nothing b e p = by_cold b.score e.score b.frontier.count e.frontier.count (is_of_root b) (is_of_root e) p

-- ---- the best along the order

pub reversed_same : (o : Ordering) → o ≡ ordering_reverse o → is_lt o ≡ false
reversed_same Less e = cc
reversed_same Equal e = refl
reversed_same Greater e = refl

reversed_less : (o p : Ordering) → o ≡ ordering_reverse p → p ≡ Less → is_lt o ≡ false
reversed_less o p e h = ap is_lt (e ∙ ap ordering_reverse h)

module _ {X K : Type 0} (cmp : K → K → Ordering) (key : X → K) where
  pub below_all : (x : X) (xs : List X) → AllByRecursion (λ k. cmp (key x) k ≡ Less) (map key xs) → (y : X) →
      Stands y xs →
      cmp (key x) (key y) ≡ Less
  below_all x [] a z s = elim s [ ]
  below_all x (y ∷ ys) a z here = a.0
  below_all x (y ∷ ys) a z (there s) = below_all x ys a.1 z s

module _ {X K : Type 0} (cmp : K → K → Ordering) (order : IsTotalOrder cmp) (key : X → K)
    (offer_of : X → Option Offer) where
  abbrev offers : List X → List Offer
  offers xs = filter_map offer_of xs

  -- the best so far, and one more
  abbrev continued : Offer → Option Offer → List X → Option Offer
  continued b o xs = fold better (Some b) (cons_option o (offers xs))

  not_behind_itself : (x : X) → is_lt (cmp (key x) (key x)) ≡ false
  not_behind_itself x = reversed_same (cmp (key x) (key x)) (order.antisymm (key x) (key x))

  not_behind_later : (x y : X) → cmp (key y) (key x) ≡ Less → is_lt (cmp (key x) (key y)) ≡ false
  not_behind_later x y h = reversed_less (cmp (key x) (key y)) (cmp (key y) (key x)) (order.antisymm (key x) (key y)) h

  all_behind : (k : K) (xs : List X) → ((y : X) → Stands y xs → cmp k (key y) ≡ Less) →
      behind cmp key offer_of k xs ≡ xs
  all_behind k [] h = refl
  all_behind k (x ∷ xs) h =
      ap (λ o. cond (is_lt o) (x ∷ behind cmp key offer_of k xs) (behind cmp key offer_of k xs)) (h x here)
      ∙ ap (λ l. x ∷ l) (all_behind k xs (λ y s. h y (there s)))

  skipped : (k : K) (x : X) (xs : List X) → is_lt (cmp k (key x)) ≡ false →
      behind cmp key offer_of k (x ∷ xs) ≡ behind cmp key offer_of k xs
  skipped k x xs h = ap (λ b. cond b (x ∷ behind cmp key offer_of k xs) (behind cmp key offer_of k xs)) h

  -- an item that offers no better leaves the best
  no_better : (b : Offer) (o : Option Offer) (es : List Offer) → IfSome o (λ e. beats e b ≡ false) →
      fold better (Some b) (cons_option o es) ≡ fold better (Some b) es
  no_better b None es h = refl
  no_better b (Some e) es h = ap (λ t. fold better (Some (cond t e b)) es) h

  -- the end: nothing behind the key is better
  pub none_better : (xs : List X) (b : Offer) (k : K) →
      ((y : X) → Stands y xs → cmp k (key y) ≡ Less → OffersNoBetter cmp key offer_of b y) →
      picked_behind cmp key offer_of xs b k ≡ Some b
  none_better [] b k h = refl
  none_better (x ∷ xs) b k h = go (cmp k (key x)) refl (none_better xs b k (λ y s. h y (there s)))
    where
      go : (o : Ordering) → cmp k (key x) ≡ o → picked_behind cmp key offer_of xs b k ≡ Some b →
          fold better (Some b) (offers
          (cond (is_lt o) (x ∷ behind cmp key offer_of k xs) (behind cmp key offer_of k xs))) ≡ Some b
      go Less e q = no_better b (offer_of x) (offers (behind cmp key offer_of k xs)) (h x here e) ∙ q
      go Equal e q = q
      go Greater e q = q

  -- the next: nothing between the key and the item's is better
  pub next_better : (xs : List X) → Ascends cmp key xs → (b : Offer) (k : K) (x : X) → Stands x xs →
      cmp k (key x) ≡ Less → ((y : X) → Stands y xs → cmp k (key y) ≡ Less → cmp (key y) (key x) ≡ Less →
      OffersNoBetter cmp key offer_of b y) → picked_behind cmp key offer_of xs b k
      ≡ fold better (Some b) (cons_option (offer_of x) (filter_map offer_of (behind cmp key offer_of (key x) xs)))
  unfolding IsStrictlySortedBy
  next_better [] up b k z s above h = elim s [ ]
  next_better (x ∷ xs) up b k z here above h =
      let later : (y : X) → Stands y xs → cmp (key x) (key y) ≡ Less = below_all cmp key x xs up.0 in
      let far : (y : X) → Stands y xs → cmp k (key y) ≡ Less = λ y s. order.trans k (key x) (key y) above (later y s) in
      ap (λ o. fold better (Some b)
      (offers (cond (is_lt o) (x ∷ behind cmp key offer_of k xs) (behind cmp key offer_of k xs)))) above
      ∙ (ap (λ l. continued b (offer_of x) l) (all_behind k xs far) ∙ sym (ap (λ l. continued b (offer_of x) l)
      (skipped (key x) x xs (not_behind_itself x) ∙ all_behind (key x) xs later)))
  next_better (y ∷ ys) up b k z (there s) above h = go (cmp k (key y)) refl
      ∙ (next_better ys up.1 b k z s above (λ w t. h w (there t))
      ∙ sym (ap (λ l. continued b (offer_of z) l) (skipped (key z) y ys (not_behind_later z y below))))
    where
      below : cmp (key y) (key z) ≡ Less
      below = below_all cmp key y ys up.0 z s

      go : (o : Ordering) → cmp k (key y) ≡ o → fold better (Some b) (offers
          (cond (is_lt o) (y ∷ behind cmp key offer_of k ys) (behind cmp key offer_of k ys)))
          ≡ picked_behind cmp key offer_of ys b k
      go Less e = no_better b (offer_of y) (offers (behind cmp key offer_of k ys)) (h y here e below)
      go Equal e = refl
      go Greater e = refl

  -- the first: nothing before the item offers
  pub first_picked : (xs : List X) → Ascends cmp key xs → (x : X) (o : Offer) → Stands x xs → offer_of x ≡ Some o →
      ((y : X) → Stands y xs → cmp (key y) (key x) ≡ Less → offer_of y ≡ None) →
      best_offer (filter_map offer_of xs) ≡ picked_behind cmp key offer_of xs o (key x)
  unfolding IsStrictlySortedBy
  first_picked [] up z o s e h = elim s [ ]
  first_picked (x ∷ xs) up z o here e h = ap (λ p. best_offer (cons_option p (offers xs))) e
      ∙ sym (ap (λ l. fold better (Some o) (offers l))
      (skipped (key x) x xs (not_behind_itself x) ∙ all_behind (key x) xs (below_all cmp key x xs up.0)))
  first_picked (y ∷ ys) up z o (there s) e h =
      let below : cmp (key y) (key z) ≡ Less = below_all cmp key y ys up.0 z s in
      ap (λ p. best_offer (cons_option p (offers ys))) (h y here below)
      ∙ (first_picked ys up.1 z o s e (λ w t. h w (there t))
      ∙ sym (ap (λ l. fold better (Some o) (offers l)) (skipped (key z) y ys (not_behind_later z y below))))

  -- no offers, no best
  pub none_offered : (xs : List X) → ((y : X) → Stands y xs → offer_of y ≡ None) →
      best_offer (filter_map offer_of xs) ≡ None
  none_offered [] h = refl
  none_offered (x ∷ xs) h =
      ap (λ p. best_offer (cons_option p (offers xs))) (h x here) ∙ none_offered xs (λ y s. h y (there s))
