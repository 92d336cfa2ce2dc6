-- How many literals have clauses.
use Rattle.std.proofs.Common.{◌≡◌, ℕ, zero, suc, ◌≤◌, ◌+◌, Bool, true, false, cond, nat_eq, List, []}
use Rattle.std.proofs.Common.{◌∷◌, Option, Some, None, is_some, length, sym, ap, refl, subst, ◌∙◌, arith}
use Rattle.std.proofs.lemmas.List.Sums.{sum_by-cons}
use Rattle.std.proofs.lemmas.Bool.Decides.{nat_tests}
use Rattle.watch_map.proofs.Words.{AreWatched, count_by, count_lists, IsChain, IsListCount, link, Lit, literal_at}
use Rattle.watch_map.proofs.Words.{literal_index, literal_index-literal_at, value_at, value_count, watchers, Watches}
use Rattle.watch_map.proofs.Words.{WatchLists}

-- the numbers below a bound added up, the last one first
sum_below : ℕ → (ℕ → ℕ) → ℕ
sum_below zero f = 0
sum_below (suc n) f = f n + sum_below n f

sum_shift : (n : ℕ) (f : ℕ → ℕ) → sum_below (suc n) f ≡ f zero + sum_below n (λ k. f (suc k))
unfolding sum_below
sum_shift zero f = refl
sum_shift (suc n) f = let ih = sum_shift n f in omega (arith, ih)

sum_same : (n : ℕ) (f g : ℕ → ℕ) → ((k : ℕ) → f k ≡ g k) → sum_below n f ≡ sum_below n g
unfolding sum_below
sum_same zero f g h = refl
sum_same (suc n) f g h = let ih = sum_same n f g h in let here = h n in omega (arith, ih, here)

lists_sum : (n : ℕ) (lists : Lit → List ℕ) → count_lists n lists
    ≡ sum_below n (λ k. cond (nat_eq (length (lists (literal_at k))) 0) 0 1)
unfolding sum_below
lists_sum zero lists = refl
lists_sum (suc n) lists = ap (λ m. cond (nat_eq (length (lists (literal_at n))) 0) 0 1 + m) (lists_sum n lists)

module _ {V : Type 0} (p : Option V → Bool) where
  slots_sum : (slots : List (Option V)) → count_by p slots
      ≡ sum_below (length slots) (λ k. cond (p (value_at slots k)) 1 0)
  unfolding sum_below
  slots_sum [] = refl
  slots_sum (x ∷ slots) =
      let ih = slots_sum slots in
      let more = sum_by-cons (λ slot. cond (p slot) 1 0) x slots in
      let shift = sum_shift (length slots) (λ k. cond (p (value_at (x ∷ slots) k)) 1 0) in
      omega (arith, ih, more, shift)

  -- slots that pass are those of the literals with clauses
  pub slots_counted : (slots : List (Option V)) (lists : Lit → List ℕ) →
      ((l : Lit) → nat_eq (length (lists l)) 0 ≡ cond (p (value_at slots (literal_index l))) false true) →
      count_by p slots ≡ count_lists (length slots) lists
  slots_counted slots lists same = slots_sum slots ∙ (sum_same (length slots) _ _ each
      ∙ sym (lists_sum (length slots) lists))
    where
      each : (k : ℕ) → ◌≡◌ {A = ℕ} (cond (p (value_at slots k)) 1 0)
          (cond (nat_eq (length (lists (literal_at k))) 0) 0 1)
      each k =
          let e : nat_eq (length (lists (literal_at k))) 0 ≡ cond (p (value_at slots k)) false true =
          subst (λ i. nat_eq (length (lists (literal_at k))) 0 ≡ cond (p (value_at slots i)) false true)
          (literal_index-literal_at k) (same (literal_at k)) in
          go (p (value_at slots k)) (nat_eq (length (lists (literal_at k))) 0) e
        where
          go : (b s : Bool) → s ≡ cond b false true → ◌≡◌ {A = ℕ} (cond b 1 0) (cond s 0 1)
          go true s e = rw e refl
          go false s e = rw e refl

  pub past_slots : (slots : List (Option V)) (i : ℕ) → length slots ≤ i → value_at slots i ≡ None
  past_slots [] i h = refl
  past_slots (x ∷ slots) zero h = absurd (omega arith)
  past_slots (x ∷ slots) (suc i) h = past_slots slots i (omega arith)

-- a literal has clauses exactly if it has a first one
pub firsts_counted : (map : WatchLists) (watches : Watches) → AreWatched map watches →
    IsListCount (watchers map watches) (value_count map)
firsts_counted map watches watched = record {
  bound = length map;
  past = λ l h. none (link watches l) (watchers map watches l) (value_at map (literal_index l)) (watched.linked l)
      (past_slots is_some map (literal_index l) h);
  counted = slots_counted is_some map (watchers map watches) (λ l.
      has (link watches l) (watchers map watches l) (value_at map (literal_index l)) (watched.linked l));
}
  where
    none : (next : ℕ → Option ℕ) (xs : List ℕ) (first : Option ℕ) → IsChain next first xs → first ≡ None → xs ≡ []
    none next [] first h e = refl
    none next (x ∷ xs) first h e = absurd (let z : Some x ≡ None = sym h.0 ∙ e in cc)

    has : (next : ℕ → Option ℕ) (xs : List ℕ) (first : Option ℕ) → IsChain next first xs →
        nat_eq (length xs) 0 ≡ cond (is_some first) false true
    has next [] first h = rw h refl
    has next (x ∷ xs) first h = rw h.0 (grind (arith, nat_tests))
