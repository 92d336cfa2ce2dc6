-- SemVer versions in ascending order, and the place of each among them.
use Rattle.std.proofs.Common.{◌≡◌, ◌∙◌, ℕ, ◌<◌, ◌≤◌, false, cond, List, [], ◌∷◌, length, map, get_or}
use Rattle.std.proofs.Common.{None, Some, refl, ap, sym}
use Rattle.std.proofs.Common.{◌+◌, Bool, not, Result, Ok, Err, le_refl, arith, inl, inr}
use Rattle.std.specs.Prelude.{◌≢◌, ◌==◌, nat_lt}
use Rattle.std.specs.BTreeSet.{insert_key}
use Rattle.std.specs.Cmp.{IsTotalOrder, on_total, then_total, nat_cmp_total, alike_right, tied_back}
use Rattle.std.specs.List.{position, position_or_len}
use Rattle.std.specs.List.Sorted.{IsStrictlySortedBy, IsBinarySearchResult, IsNonDecreasingBy, IsSearchInRange}
use Rattle.std.specs.Ordering.{on, eq_by_cmp, is_eq, ordering_index, ordering_reverse, match_ordering}
use Rattle.std.specs.Result.{result_ok}
use Rattle.std.specs.declared.cmp.Ordering.{Ordering}
use Rattle.std.specs.declared.cmp.Ordering.TheVariants.{Less, Equal, Greater}
use Rattle.std.proofs.lemmas.Bool.{cases_Bool, eqb-true, lt-ltb, ltb-true, ltb-false}
use Rattle.std.proofs.lemmas.Bool.Decides.{nat_tests}
use Rattle.std.proofs.lemmas.List.{length-map}
use Rattle.std.proofs.lemmas.List.Sums.{position_or_len_is}
use Rattle.std.proofs.lemmas.Map.Keys.{Less-from_sorted}
use Rattle.index_text.specs.Formats.{version_cmp}
use Rattle.semver.specs.Identifiers.{parts_of}
use Rattle.semver.specs.OrderLaws.{pre_total, build_total}
use Rattle.semver.specs.Parse.{Parts}

-- the order of versions is total
pub version_total : IsTotalOrder version_cmp
unfolding version_cmp
version_total =
    then_total (on_total (λ (p : Parts). p.0) nat_cmp_total) (then_total (on_total (λ (p : Parts). p.1) nat_cmp_total)
    (then_total (on_total (λ (p : Parts). p.2) nat_cmp_total)
    (then_total (on_total (λ (p : Parts). p.3) pre_total) (on_total (λ (p : Parts). p.4) build_total))))

pub read_total : IsTotalOrder (on parts_of version_cmp)
read_total = on_total parts_of version_total

not_below : (n : ℕ) → nat_lt n n ≡ false
not_below n = grind (arith, nat_tests)

apart : (i j : ℕ) → i ≤ j → (i == j) ≡ false → i < j
apart i j h other = grind (arith, nat_tests)

not_equal : (r : Ordering) → r ≢ Equal → is_eq r ≡ false
not_equal Less h = refl
not_equal Equal h = absurd (h refl)
not_equal Greater h = refl

module _ {K : Type 0} {R : K → K → Ordering} (o : IsTotalOrder R) where
  -- of two elements the higher one compares no lower with a third
  index_rises : (a b x : K) (r s : Ordering) → R a b ≡ Less → R a x ≡ r → R b x ≡ s
      → ordering_index r ≤ ordering_index s
  index_rises a b x Less s h e f = omega arith
  index_rises a b x Equal Less h e f = cc (sym e ∙ o.trans a b x h f)
  index_rises a b x Equal Equal h e f = omega arith
  index_rises a b x Equal Greater h e f = omega arith
  index_rises a b x Greater Less h e f = cc (sym e ∙ o.trans a b x h f)
  index_rises a b x Greater Equal h e f = cc (sym e ∙ sym (alike_right o b x a f) ∙ h)
  index_rises a b x Greater Greater h e f = omega arith

  module _ (ks : List K) (sorted : IsStrictlySortedBy R ks) (x : K) where
    position_from_len : (i : ℕ) → i < length ks → position_or_len (eq_by_cmp R x) ks ≡ i
        → position (eq_by_cmp R x) ks ≡ Some i
    position_from_len i h e = ap (λ n. cond (nat_lt n (length ks)) (Some n) None) e
        ∙ ap (λ b. cond b (Some i) None) (lt-ltb i (length ks) h)

    -- below an element that ties with x none does
    differs_below : (i k : ℕ) (d : K) → i < length ks → R x (get_or ks i d) ≡ Equal → k < i
        → is_eq (R x (get_or ks k d)) ≡ false
    differs_below i k d h e below =
        ap is_eq (o.congr x (get_or ks i d) (get_or ks k d) e ∙ o.antisymm (get_or ks i d) (get_or ks k d)
        ∙ ap ordering_reverse (Less-from_sorted R ks k i d sorted below h))

    -- the place of x is that of an element that ties with it
    pub position_at : (i : ℕ) (d : K) → i < length ks → R x (get_or ks i d) ≡ Equal
        → position (eq_by_cmp R x) ks ≡ Some i
    position_at i d h e = position_from_len i h (position_or_len_is (eq_by_cmp R x) ks i d (omega arith)
        (λ k below. differs_below i k d h e below) (λ in'. ap is_eq e))

    position_none : ((k : ℕ) → k < length ks → R x (get_or ks k x) ≢ Equal) → position (eq_by_cmp R x) ks ≡ None
    position_none h =
        let last = position_or_len_is (eq_by_cmp R x) ks (length ks) x (omega arith)
        (λ k below. not_equal (R x (get_or ks k x)) (h k below)) (λ in'. absurd (omega arith)) in
        ap (λ n. cond (nat_lt n (length ks)) (Some n) None) last
        ∙ ap (λ b. cond b (Some (length ks)) None) (not_below (length ks))

    index_ascends : IsNonDecreasingBy (λ y. ordering_index (R y x)) ks
    index_ascends i j d h in' = elim (cases_Bool (i == j)) [
      | inl same ↦ let e : i ≡ j = eqb-true i j same in
          rw e (le_refl (ordering_index (R (get_or ks j d) x)))
      | inr other ↦ index_rises (get_or ks i d) (get_or ks j d) x (R (get_or ks i d) x) (R (get_or ks j d) x)
          (Less-from_sorted R ks i j d sorted (apart i j h other) in') refl refl
    ]

    -- what a binary search finds is the place
    pub searched_place : (r : Result ℕ ℕ) → IsSearchInRange r (length ks) → IsBinarySearchResult (λ y. R y x) ks r
        → result_ok r ≡ position (eq_by_cmp R x) ks
    searched_place (Ok i) in' found = sym (position_at i x in' (tied_back o (get_or ks i x) x (found x)))
    searched_place (Err i) in' found =
        let parts = found index_ascends in
        sym (position_none (λ k h e. elim (cases_Bool (nat_lt k i)) [
          | inl low ↦ let less : R (get_or ks k x) x ≡ Less = parts.0 k x (omega arith) (ltb-true k i low) in
              cc (sym less ∙ tied_back o x (get_or ks k x) e)
          | inr high ↦ let greater : R (get_or ks k x) x ≡ Greater = parts.1 k x (ltb-false k i high) h in
              cc (sym greater ∙ tied_back o x (get_or ks k x) e)
        ]))

module _ {K Q : Type 0} (f : K → Q) (R : Q → Q → Ordering) where
  map_match : (r : Ordering) (xs ys zs : List K) → map f (match_ordering r xs ys zs)
      ≡ match_ordering r (map f xs) (map f ys) (map f zs)
  map_match Less xs ys zs = refl
  map_match Equal xs ys zs = refl
  map_match Greater xs ys zs = refl

  -- an insertion of what stands for another thing
  pub map-insert_key : (ks : List K) (k : K) → map f (insert_key (on f R) ks k) ≡ insert_key R (map f ks) (f k)
  map-insert_key [] k = refl
  map-insert_key (x ∷ ks) k =
      map_match (R (f k) (f x)) (k ∷ x ∷ ks) (x ∷ ks) (x ∷ insert_key (on f R) ks k)
      ∙ ap (λ ys. match_ordering (R (f k) (f x)) (f k ∷ f x ∷ map f ks) (f x ∷ map f ks) (f x ∷ ys))
      (map-insert_key ks k)

  position_or_len-map : (p : Q → Bool) (xs : List K) → position_or_len p (map f xs) ≡ position_or_len (λ x. p (f x)) xs
  position_or_len-map p [] = refl
  position_or_len-map p (x ∷ xs) = ap (λ n. cond (not (p (f x))) (1 + n) 0) (position_or_len-map p xs)

  -- the place of what stands for another thing
  pub position-map : (p : Q → Bool) (xs : List K) → position p (map f xs) ≡ position (λ x. p (f x)) xs
  position-map p xs = rw (position_or_len-map p xs, length-map) refl
