-- The numbered scan is the scan, ascends by position, and has each clause with its number.
use Rattle.std.proofs.Common.{◌≡◌, ℕ, zero, suc, ◌+◌, ◌<◌, ◌≤◌, Bool, true, false, not, ◌&&◌, ◌||◌, cond, eqb}
use Rattle.std.proofs.Common.{List, [], ◌∷◌, ◌++◌, map, filter, flat_map, fold, Some, slice_get, inl, inr}
use Rattle.std.proofs.Common.{sym, ap, refl, ◌∙◌, arith, eqb-true, eq-eqb, subst, append_assoc, append-nil}
use Rattle.std.proofs.lemmas.Bool.Decides.{nat_tests}
use Rattle.std.proofs.lemmas.List.Folds.{list_any-append}
use Rattle.std.proofs.lemmas.List.{map-append}
use Rattle.std.specs.Prelude.{◌==◌}
use Rattle.std.specs.List.Sorted.{IsStrictlySortedBy}
use Rattle.resolvo_queue.proofs.Words.{add_parent, AllByRecursion, first_from, here, Less, list_any}
use Rattle.resolvo_queue.proofs.Words.{nat_cmp, numbered, numbered_of, numbered_scan, Ordering, ordering_then}
use Rattle.resolvo_queue.proofs.Words.{parents_in, position_in, Stands, there}
use Rattle.resolvo_queue.proofs.Picks.Behind.{Ascends}
use Rattle.resolvo_queue.proofs.Lists.{append_left, append_right, filter_stands, same_some, stands_append}
use Rattle.resolvo_queue.proofs.Lists.{stands_filter}

module _ {C : Type 0} (parent : C → ℕ) where
  -- the scan of the clauses
  abbrev pub scan_of : List C → List C
  scan_of cs = flat_map (λ p. filter (λ c. parent c == p) cs) (parents_in parent cs)

-- ---- members

module _ {P X : Type 0} (g : P → List X) where
  stands_flat : (ps : List P) (x : X) → Stands x (flat_map g ps) → (p : P) × Stands p ps × Stands x (g p)
  stands_flat [] x s = elim s [ ]
  stands_flat (p ∷ ps) x s = elim (stands_append (g p) (flat_map g ps) x s) [
    | inl a ↦ (p, here, a)
    | inr b ↦ let m = stands_flat ps x b in (m.0, there m.1, m.2)
  ]

  flat_stands : (ps : List P) (p : P) (x : X) → Stands p ps → Stands x (g p) → Stands x (flat_map g ps)
  flat_stands [] p x s a = elim s [ ]
  flat_stands (p ∷ ps) q x here a = append_left (g p) (flat_map g ps) x a
  flat_stands (q ∷ ps) p x (there s) a = append_right (g q) (flat_map g ps) x (flat_stands ps p x s a)

-- ---- lists in which each stands to each later one

abbrev Up : {X : Type 0} → (X → X → Type 0) → List X → Type 0
Up R [] = Unit {0}
Up {X} R (x ∷ xs) = ((y : X) → Stands y xs → R x y) × Up R xs

module _ {X : Type 0} (R : X → X → Type 0) where
  up_filter : (t : X → Bool) (xs : List X) → Up R xs → Up R (filter t xs)
  up_filter t [] u = tt
  up_filter t (x ∷ xs) u = go (t x) (up_filter t xs u.1)
    where
      go : (b : Bool) → Up R (filter t xs) → Up R (cond b (x ∷ filter t xs) (filter t xs))
      go true v = (λ y s. u.0 y (stands_filter t xs y s).0, v)
      go false v = v

  up_append : (xs ys : List X) → Up R xs → Up R ys → ((x y : X) → Stands x xs → Stands y ys → R x y) → Up R (xs ++ ys)
  up_append [] ys u v h = v
  up_append (x ∷ xs) ys u v h = (
    λ y s. elim (stands_append xs ys y s) [ inl a ↦ u.0 y a | inr b ↦ h x y here b ],
    up_append xs ys u.1 v (λ z y a b. h z y (there a) b),
  )

  up_along : (S : X → X → Type 0) (xs : List X) → ((x y : X) → Stands x xs → Stands y xs → R x y → S x y) →
      Up R xs → Up S xs
  up_along S [] h u = tt
  up_along S (x ∷ xs) h u =
      (λ y s. h x y here (there s) (u.0 y s), up_along S xs (λ y z a b. h y z (there a) (there b)) u.1)

up_flat : {P X : Type 0} (R : P → P → Type 0) (S : X → X → Type 0) (g : P → List X) (ps : List P) → Up R ps →
    ((p : P) → Stands p ps → Up S (g p)) →
    ((p q : P) → Stands p ps → Stands q ps → R p q → (x y : X) → Stands x (g p) → Stands y (g q) → S x y) →
    Up S (flat_map g ps)
up_flat R S g [] u own between = tt
up_flat R S g (p ∷ ps) u own between = up_append S (g p) (flat_map g ps) (own p here)
    (up_flat R S g ps u.1 (λ q s. own q (there s)) (λ q r a b. between q r (there a) (there b)))
    (λ x y a b. let m = stands_flat g ps y b in between p m.0 here (there m.1) (u.0 m.0 m.1) x y a m.2)

sorted_up : {X K : Type 0} (cmp : K → K → Ordering) (key : X → K) (xs : List X) →
    Up (λ x y. cmp (key x) (key y) ≡ Less) xs → Ascends cmp key xs
unfolding IsStrictlySortedBy
sorted_up cmp key [] u = tt
sorted_up {X} {K} cmp key (x ∷ xs) u = (below xs u.0, sorted_up cmp key xs u.1)
  where
    below : (ys : List X) → ((y : X) → Stands y ys → cmp (key x) (key y) ≡ Less) →
        AllByRecursion (λ k. cmp (key x) k ≡ Less) (map key ys)
    below [] h = tt
    below (y ∷ ys) h = (h y here, below ys (λ z s. h z (there s)))

-- ---- the parents

filter_twice : {X : Type 0} (s t : X → Bool) (xs : List X) → filter s (filter t xs) ≡ filter (λ x. t x && s x) xs
filter_twice s t [] = refl
filter_twice s t (x ∷ xs) = go (t x) (filter_twice s t xs)
  where
    go : (b : Bool) → filter s (filter t xs) ≡ filter (λ y. t y && s y) xs →
        filter s (cond b (x ∷ filter t xs) (filter t xs)) ≡
        cond (b && s x) (x ∷ filter (λ y. t y && s y) xs) (filter (λ y. t y && s y) xs)
    go true e = ap (λ l. cond (s x) (x ∷ l) l) e
    go false e = e

filter_along : {X : Type 0} (s t : X → Bool) → ((x : X) → s x ≡ t x) → (xs : List X) → filter s xs ≡ filter t xs
filter_along s t h [] = refl
filter_along s t h (x ∷ xs) =
    ap (λ b. cond b (x ∷ filter s xs) (filter s xs)) (h x) ∙ ap (λ l. cond (t x) (x ∷ l) l) (filter_along s t h xs)

filter_all : {X : Type 0} (xs : List X) → filter (λ x. true) xs ≡ xs
filter_all [] = refl
filter_all (x ∷ xs) = ap (λ l. x ∷ l) (filter_all xs)

abbrev is_seen : List ℕ → ℕ → Bool
is_seen seen q = list_any (λ p. eqb p q) seen

module _ {C : Type 0} (parent : C → ℕ) where
  -- the parents, from the front
  abbrev own_parents : List C → List ℕ
  own_parents [] = []
  own_parents (c ∷ cs) = parent c ∷ filter (λ q. not (eqb (parent c) q)) (own_parents cs)

  folded : (cs : List C) (seen : List ℕ) →
      fold add_parent seen (map parent cs) ≡ seen ++ filter (λ q. not (is_seen seen q)) (own_parents cs)
  folded [] seen = sym (append-nil seen)
  folded (c ∷ cs) seen = go (is_seen seen (parent c)) refl (folded cs seen) (folded cs (seen ++ parent c ∷ []))
    where
      Rest : List ℕ
      Rest = filter (λ q. not (eqb (parent c) q)) (own_parents cs)

      seen_anyway : is_seen seen (parent c) ≡ true → (q : ℕ) →
          (not (eqb (parent c) q) && not (is_seen seen q)) ≡ not (is_seen seen q)
      seen_anyway h q = by (eqb (parent c) q) refl
        where
          by : (b : Bool) → eqb (parent c) q ≡ b → (not b && not (is_seen seen q)) ≡ not (is_seen seen q)
          by true e = sym (ap not (ap (is_seen seen) (sym (eqb-true (parent c) q e)) ∙ h))
          by false e = refl

      one_more : (q : ℕ) → not (is_seen (seen ++ parent c ∷ []) q) ≡ (not (eqb (parent c) q) && not (is_seen seen q))
      one_more q = ap not (list_any-append (λ p. eqb p q) seen (parent c ∷ [])) ∙ by (is_seen seen q) (eqb (parent c) q)
        where
          by : (a b : Bool) → not (a || (b || false)) ≡ (not b && not a)
          by true true = refl
          by true false = refl
          by false true = refl
          by false false = refl

      go : (b : Bool) → is_seen seen (parent c) ≡ b →
          fold add_parent seen (map parent cs) ≡ seen ++ filter (λ q. not (is_seen seen q)) (own_parents cs) →
          fold add_parent (seen ++ parent c ∷ []) (map parent cs) ≡
          (seen ++ parent c ∷ []) ++ filter (λ q. not (is_seen (seen ++ parent c ∷ []) q)) (own_parents cs) →
          fold add_parent (cond b seen (seen ++ parent c ∷ [])) (map parent cs)
          ≡ seen ++ cond (not b) (parent c ∷ filter (λ q. not (is_seen seen q)) Rest)
          (filter (λ q. not (is_seen seen q)) Rest)
      go true e old new = old ∙ ap (λ l. seen ++ l)
          (sym (filter_twice (λ q. not (is_seen seen q)) (λ q. not (eqb (parent c) q)) (own_parents cs)
          ∙ filter_along _ (λ q. not (is_seen seen q)) (seen_anyway e) (own_parents cs)))
      go false e old new = new ∙ (append_assoc seen (parent c ∷ [])
          (filter (λ q. not (is_seen (seen ++ parent c ∷ []) q)) (own_parents cs)) ∙ ap (λ l. seen ++ (parent c ∷ l))
          (filter_along _ (λ q. not (eqb (parent c) q) && not (is_seen seen q)) one_more (own_parents cs)
          ∙ sym (filter_twice (λ q. not (is_seen seen q)) (λ q. not (eqb (parent c) q)) (own_parents cs))))

  parents_are : (cs : List C) → parents_in parent cs ≡ own_parents cs
  parents_are cs = folded cs [] ∙ filter_all (own_parents cs)

  -- ---- their firsts ascend

  first_above : (i : ℕ) (cs : List C) (p : ℕ) → i ≤ first_from parent i cs p
  first_above i [] p = omega arith
  first_above i (c ∷ cs) p = go (eqb (parent c) p) (first_above (suc i) cs p)
    where
      go : (b : Bool) → suc i ≤ first_from parent (suc i) cs p → i ≤ cond b i (first_from parent (suc i) cs p)
      go true h = omega arith
      go false h = omega arith

  other_first : (i : ℕ) (c : C) (cs : List C) (p : ℕ) → not (eqb (parent c) p) ≡ true →
      first_from parent i (c ∷ cs) p ≡ first_from parent (suc i) cs p
  other_first i c cs p h = go (eqb (parent c) p) h
    where
      go : (b : Bool) → not b ≡ true → cond b i (first_from parent (suc i) cs p) ≡ first_from parent (suc i) cs p
      go true e = cc
      go false e = refl

  own_first : (i : ℕ) (c : C) (cs : List C) → first_from parent i (c ∷ cs) (parent c) ≡ i
  own_first i c cs = ap (λ b. cond b i (first_from parent (suc i) cs (parent c))) (eq-eqb (parent c) (parent c) refl)

  -- a parent that has a clause keeps its first number
  pub first_kept : (i : ℕ) (cs : List C) (new : C) (n : ℕ) (c : C) → slice_get cs n ≡ Some c →
      first_from parent i (cs ++ new ∷ []) (parent c) ≡ first_from parent i cs (parent c)
  first_kept i [] new n c e = cc
  first_kept i (x ∷ xs) new zero c e =
      let found : eqb (parent x) (parent c) ≡ true = eq-eqb (parent x) (parent c) (ap parent (same_some x c e)) in
      ap (λ b. cond b i (first_from parent (suc i) (xs ++ new ∷ []) (parent c))) found ∙
      sym (ap (λ b. cond b i (first_from parent (suc i) xs (parent c))) found)
  first_kept i (x ∷ xs) new (suc n) c e =
      ap (λ m. cond (eqb (parent x) (parent c)) i m) (first_kept (suc i) xs new n c e)

  -- the clause with the first number of a parent is one of its own
  pub first_is_own : (i : ℕ) (cs : List C) (n : ℕ) (c : C) → slice_get cs n ≡ Some c →
      (k : ℕ) (d : C) → i + k ≡ first_from parent i cs (parent c) → slice_get cs k ≡ Some d → parent d ≡ parent c
  first_is_own i [] n c e k d at s = cc
  first_is_own i (x ∷ xs) n c e k d at s =
      go (λ m j r t z. first_is_own (suc i) xs m c r j d z t) (eqb (parent x) (parent c)) refl at
    where
      Later : Type 0
      Later = (m j : ℕ) → slice_get xs m ≡ Some c → slice_get xs j ≡ Some d →
          suc i + j ≡ first_from parent (suc i) xs (parent c) → parent d ≡ parent c

      own : eqb (parent x) (parent c) ≡ true → (j : ℕ) → slice_get (x ∷ xs) j ≡ Some d → i + j ≡ i → parent d ≡ parent c
      own h zero r z = ap parent (same d x r) ∙ eqb-true (parent x) (parent c) h
        where
          same : (a b : C) → Some b ≡ Some a → a ≡ b
          same a b t = cc
      own h (suc j) r z = absurd (omega (arith, z))

      other : Later → eqb (parent x) (parent c) ≡ false → (m j : ℕ) → slice_get (x ∷ xs) m ≡ Some c →
          slice_get (x ∷ xs) j ≡ Some d → i + j ≡ first_from parent (suc i) xs (parent c) → parent d ≡ parent c
      other later h zero j r t z = let bad : eqb (parent x) (parent c) ≡ true =
          eq-eqb (parent x) (parent c) (ap parent (same x c r)) in cc
        where
          same : (a b : C) → Some a ≡ Some b → a ≡ b
          same a b q = cc
      other later h (suc m) zero r t z = let above : suc i ≤ first_from parent (suc i) xs (parent c) =
          first_above (suc i) xs (parent c) in absurd (omega (arith, above, z))
      other later h (suc m) (suc j) r t z = later m j r t (let q : suc i + j ≡ i + suc j = omega arith in q ∙ z)

      go : Later → (b : Bool) → eqb (parent x) (parent c) ≡ b →
          i + k ≡ cond b i (first_from parent (suc i) xs (parent c)) → parent d ≡ parent c
      go later true h z = own h k s z
      go later false h z = other later h n k e s z

  firsts_up : (i : ℕ) (cs : List C) → Up (λ p q. first_from parent i cs p < first_from parent i cs q) (own_parents cs)
  firsts_up i [] = tt
  firsts_up i (c ∷ cs) = (
    λ q s. (let m = stands_filter (λ r. not (eqb (parent c) r)) (own_parents cs) q s in
        let here : first_from parent i (c ∷ cs) (parent c) ≡ i = own_first i c cs in
        let other : first_from parent i (c ∷ cs) q ≡ first_from parent (suc i) cs q = other_first i c cs q m.1 in
        let above : suc i ≤ first_from parent (suc i) cs q = first_above (suc i) cs q in
        omega arith),
    up_along (λ p q. first_from parent (suc i) cs p < first_from parent (suc i) cs q) (λ p q.
        first_from parent i (c ∷ cs) p < first_from parent i (c ∷ cs) q)
        (filter (λ r. not (eqb (parent c) r)) (own_parents cs)) (λ p q a b h.
        let m = stands_filter (λ r. not (eqb (parent c) r)) (own_parents cs) p a in
        let n = stands_filter (λ r. not (eqb (parent c) r)) (own_parents cs) q b in
        let mine : first_from parent i (c ∷ cs) p ≡ first_from parent (suc i) cs p = other_first i c cs p m.1 in
        let other : first_from parent i (c ∷ cs) q ≡ first_from parent (suc i) cs q = other_first i c cs q n.1 in
        omega arith) (up_filter (λ p q. first_from parent (suc i) cs p < first_from parent (suc i) cs q) (λ r.
        not (eqb (parent c) r)) (own_parents cs) (firsts_up (suc i) cs)),
  )

  -- ---- the numbers

  numbered_above : (i : ℕ) (cs : List C) (x : ℕ × C) → Stands x (numbered parent i cs) → i ≤ x.0
  numbered_above i [] x s = elim s [ ]
  numbered_above i (c ∷ cs) x here = omega arith
  numbered_above i (c ∷ cs) x (there s) = let h : suc i ≤ x.0 = numbered_above (suc i) cs x s in omega arith

  numbers_up : (i : ℕ) (cs : List C) → Up (λ (x y : ℕ × C). x.0 < y.0) (numbered parent i cs)
  numbers_up i [] = tt
  numbers_up i (c ∷ cs) = (
    λ y s. (let h : suc i ≤ y.0 = numbered_above (suc i) cs y s in omega arith),
    numbers_up (suc i) cs,
  )

  -- ---- positions

  -- by the first numbers, and then by the second
  abbrev pub Orders : {K : Type 0} → (K → K → Ordering) → (ℕ → ℕ → K) → Type 0
  Orders cmp make = (a b c d : ℕ) → cmp (make a b) (make c d) ≡ ordering_then (nat_cmp a c) (nat_cmp b d)

  less_first : (a b c d : ℕ) → a < c → ordering_then (nat_cmp a c) (nat_cmp b d) ≡ Less
  less_first a b c d h = grind (arith, nat_tests)

  less_second : (a b d : ℕ) → b < d → ordering_then (nat_cmp a a) (nat_cmp b d) ≡ Less
  less_second a b d h = grind (arith, nat_tests)

  -- the numbered scan ascends by position
  pub scan_ascends : {K : Type 0} (cmp : K → K → Ordering) (make : ℕ → ℕ → K) → Orders cmp make → (cs : List C) →
      Ascends cmp (position_in parent make cs) (numbered_scan parent cs)
  scan_ascends {K} cmp make order cs = sorted_up cmp (position_in parent make cs) (numbered_scan parent cs)
      (subst (λ ps. Up Below (flat_map (numbered_of parent cs) ps)) (sym (parents_are cs))
      (up_flat (λ p q. first_from parent 0 cs p < first_from parent 0 cs q) Below (numbered_of parent cs)
      (own_parents cs) (firsts_up 0 cs) within between))
    where
      Below : ℕ × C → ℕ × C → Type 0
      Below x y = cmp (position_in parent make cs x) (position_in parent make cs y) ≡ Less

      owned : (p : ℕ) (x : ℕ × C) → Stands x (numbered_of parent cs p) →
          first_from parent 0 cs (parent x.1) ≡ first_from parent 0 cs p
      owned p x s = ap (first_from parent 0 cs) (eqb-true (parent x.1) p
          (stands_filter (λ (y : ℕ × C). eqb (parent y.1) p) (numbered parent 0 cs) x s).1)

      at : (x y : ℕ × C) → ordering_then (nat_cmp (first_from parent 0 cs (parent x.1))
          (first_from parent 0 cs (parent y.1))) (nat_cmp x.0 y.0) ≡ Less → Below x y
      at x y h = order _ _ _ _ ∙ h

      within : (p : ℕ) → Stands p (own_parents cs) → Up Below (numbered_of parent cs p)
      within p s = up_along (λ (x y : ℕ × C). x.0 < y.0) Below (numbered_of parent cs p) (λ x y a b h. at x y
          (ap (λ n. ordering_then (nat_cmp n (first_from parent 0 cs (parent y.1))) (nat_cmp x.0 y.0))
          (owned p x a ∙ sym (owned p y b)) ∙ less_second (first_from parent 0 cs (parent y.1)) x.0 y.0 h))
          (up_filter (λ (x y : ℕ × C). x.0 < y.0) (λ (x : ℕ × C). eqb (parent x.1) p) (numbered parent 0 cs)
          (numbers_up 0 cs))

      between : (p q : ℕ) → Stands p (own_parents cs) → Stands q (own_parents cs) →
          first_from parent 0 cs p < first_from parent 0 cs q →
          (x y : ℕ × C) → Stands x (numbered_of parent cs p) → Stands y (numbered_of parent cs q) → Below x y
      between p q s t h x y a b =
          let mine : first_from parent 0 cs (parent x.1) ≡ first_from parent 0 cs p = owned p x a in
          let other : first_from parent 0 cs (parent y.1) ≡ first_from parent 0 cs q = owned q y b in
          let lower : first_from parent 0 cs (parent x.1) < first_from parent 0 cs (parent y.1) = omega arith in
          at x y (less_first (first_from parent 0 cs (parent x.1)) x.0 (first_from parent 0 cs (parent y.1)) y.0 lower)

  -- ---- the scan

  without_numbers : (p i : ℕ) (cs : List C) →
      map (λ x. x.1) (filter (λ x. eqb (parent x.1) p) (numbered parent i cs)) ≡ filter (λ c. eqb (parent c) p) cs
  without_numbers p i [] = refl
  without_numbers p i (c ∷ cs) = go (eqb (parent c) p) (without_numbers p (suc i) cs)
    where
      go : (b : Bool) → map (λ (x : ℕ × C). x.1) (filter (λ x. eqb (parent x.1) p) (numbered parent (suc i) cs)) ≡
          filter (λ c. eqb (parent c) p) cs →
          map (λ (x : ℕ × C). x.1) (cond b ((i, c) ∷ filter (λ x. eqb (parent x.1) p) (numbered parent (suc i) cs))
          (filter (λ x. eqb (parent x.1) p) (numbered parent (suc i) cs)))
          ≡ cond b (c ∷ filter (λ c. eqb (parent c) p) cs) (filter (λ c. eqb (parent c) p) cs)
      go true e = ap (λ l. c ∷ l) e
      go false e = e

  map_flat : (cs : List C) (ps : List ℕ) →
      map (λ x. x.1) (flat_map (numbered_of parent cs) ps) ≡ flat_map (λ p. filter (λ c. eqb (parent c) p) cs) ps
  map_flat cs [] = refl
  map_flat cs (p ∷ ps) = map-append (λ (x : ℕ × C). x.1) (numbered_of parent cs p) (flat_map (numbered_of parent cs) ps)
      ∙ (ap (λ l. l ++ map (λ x. x.1) (flat_map (numbered_of parent cs) ps)) (without_numbers p 0 cs)
      ∙ ap (λ l. filter (λ c. eqb (parent c) p) cs ++ l) (map_flat cs ps))

  -- without the numbers, the numbered scan is the scan
  pub scan_is : (cs : List C) → map (λ x. x.1) (numbered_scan parent cs) ≡ scan_of parent cs
  scan_is cs = map_flat cs (parents_in parent cs)

  -- ---- its members

  numbered_at : (i : ℕ) (cs : List C) (x : ℕ × C) → Stands x (numbered parent i cs) →
      (k : ℕ) × (x.0 ≡ i + k) × (slice_get cs k ≡ Some x.1)
  numbered_at i [] x s = elim s [ ]
  numbered_at i (c ∷ cs) x here = (0, omega arith, refl)
  numbered_at i (c ∷ cs) x (there s) = let m = numbered_at (suc i) cs x s in
      (suc m.0, (let e = m.1 in omega arith), m.2)

  at_numbered : (i : ℕ) (cs : List C) (k : ℕ) (c : C) → slice_get cs k ≡ Some c →
      Stands (i + k, c) (numbered parent i cs)
  at_numbered i [] k c e = cc
  at_numbered i (d ∷ cs) zero c e =
      let same : d ≡ c = cc in
      let n : i ≡ i + 0 = omega arith in
      subst (λ (x : ℕ × C). Stands x ((i, d) ∷ numbered parent (suc i) cs))
      (ap (λ m. (m, d)) n ∙ ap (λ y. (i + 0, y)) same) here
  at_numbered i (d ∷ cs) (suc k) c e =
      let n : suc i + k ≡ i + suc k = omega arith in
      there (subst (λ m. Stands (m, c) (numbered parent (suc i) cs)) n (at_numbered (suc i) cs k c e))

  is_parent : (cs : List C) (k : ℕ) (c : C) → slice_get cs k ≡ Some c → Stands (parent c) (own_parents cs)
  is_parent [] k c e = cc
  is_parent (d ∷ cs) zero c e = let same : d ≡ c = cc in subst (λ y. Stands (parent y) (own_parents (d ∷ cs))) same here
  is_parent (d ∷ cs) (suc k) c e = go (eqb (parent d) (parent c)) refl (is_parent cs k c e)
    where
      go : (b : Bool) → eqb (parent d) (parent c) ≡ b → Stands (parent c) (own_parents cs) →
          Stands (parent c) (own_parents (d ∷ cs))
      go true h s = subst (λ p. Stands p (own_parents (d ∷ cs))) (eqb-true (parent d) (parent c) h) here
      go false h s = there (filter_stands (λ q. not (eqb (parent d) q)) (own_parents cs) (parent c) s (ap not h))

  -- a clause stands in the numbered scan at its number
  pub scanned_at : (cs : List C) (x : ℕ × C) → Stands x (numbered_scan parent cs) → slice_get cs x.0 ≡ Some x.1
  scanned_at cs x s =
      let m = stands_flat (numbered_of parent cs) (parents_in parent cs) x s in
      let n = numbered_at 0 cs x (stands_filter (λ (y : ℕ × C). eqb (parent y.1) m.0) (numbered parent 0 cs) x m.2).0 in
      let e : x.0 ≡ 0 + n.0 = n.1 in
      let f : x.0 ≡ n.0 = omega arith in
      ap (slice_get cs) f ∙ n.2

  pub at_scanned : (cs : List C) (k : ℕ) (c : C) → slice_get cs k ≡ Some c → Stands (k, c) (numbered_scan parent cs)
  at_scanned cs k c e = flat_stands (numbered_of parent cs) (parents_in parent cs) (parent c) (k, c)
      (subst (Stands (parent c)) (sym (parents_are cs)) (is_parent cs k c e))
      (filter_stands (λ (y : ℕ × C). eqb (parent y.1) (parent c)) (numbered parent 0 cs) (k, c)
      (let n : 0 + k ≡ k = omega arith in subst (λ m. Stands (m, c) (numbered parent 0 cs)) n (at_numbered 0 cs k c e))
      (eq-eqb (parent c) (parent c) refl))
