-- Conditions that are noted, and settled.
use Rattle.std.proofs.Common.{◌≡◌, ℕ, zero, suc, ◌+◌, ◌<◌, ◌≤◌, Bool, true, false, cond, inl, inr, List, [], ◌∷◌}
use Rattle.std.proofs.Common.{map, take, length, get_or, slice_get, unwrap_or, None, Some, sym, ap, refl, ◌∙◌, subst}
use Rattle.std.proofs.Common.{arith}
use Rattle.std.proofs.lemmas.Bool.Decides.{nat_tests}
use Rattle.std.proofs.lemmas.List.{take_more}
use Rattle.resolvo_queue.proofs.Words.{AllWokenFrom, AreNoted, Disjunction, GrowsBy, is_noted, IsOfClause}
use Rattle.resolvo_queue.proofs.Words.{KeepsNoted, Queued, same_number, Settles, Stands, TrackedClause, Values}
use Rattle.resolvo_queue.proofs.Words.{are_literals_false, condition_literals, stored_in, WakesIfMet}
use Rattle.resolvo_queue.proofs.Lists.{stands_cases}
use Rattle.resolvo_queue.proofs.Syncs.Queued.{queued_stays}

pub same_is : (a b : ℕ) → same_number a b ≡ true → a ≡ b
same_is a b e = grind (arith, nat_tests)

pub self_same : (a : ℕ) → same_number a a ≡ true
self_same a = grind (arith, nat_tests)

-- ---- one condition more

module _ (x : ℕ) (old now : List ℕ) (is : (d : ℕ) → is_noted now d ≡ cond (same_number x d) true (is_noted old d)) where
  pub noted_kept : KeepsNoted old now
  noted_kept d h = is d ∙ go (same_number x d)
    where
      go : (b : Bool) → cond b true (is_noted old d) ≡ true
      go true = refl
      go false = h

  noted_this : is_noted now x ≡ true
  noted_this = is x ∙ ap (λ b. cond b true (is_noted old x)) (self_same x)

  -- a loop's step
  pub noted_more : (ds : List ℕ) (i : ℕ) → i < length ds → x ≡ get_or ds i 0 → AreNoted (take i ds) old →
      AreNoted (take (i + 1) ds) now
  noted_more ds i within read are = subst (λ l. AreNoted l now) (sym (take_more ds i 0 within)) (λ d s.
      elim (stands_cases (take i ds) (get_or ds i 0) d s) [
        | inl h ↦ noted_kept d (are d h)
        | inr e ↦ subst (λ y. is_noted now y ≡ true) (read ∙ sym e) noted_this
      ])

-- ---- what is settled

module _ {A : Type 0} (cs : List TrackedClause) (disjunctions : List (Disjunction A)) (val : Values) where
  wakes_still : (d : ℕ) (q q' : Queued) → GrowsBy (IsOfClause cs) q q' → WakesIfMet cs disjunctions val d q →
      WakesIfMet cs disjunctions val d q'
  wakes_still d q q' grows wakes met = λ n c at is t. queued_stays (IsOfClause cs) q q' c grows (wakes met n c at is t)

  -- where more are queued
  pub settles_still : (begin noted : List ℕ) (q q' : Queued) → GrowsBy (IsOfClause cs) q q' →
      Settles cs disjunctions val begin noted q → Settles cs disjunctions val begin noted q'
  settles_still begin noted q q' grows old d h =
      elim (old d h) [ inl still ↦ inl still | inr wakes ↦ inr (wakes_still d q q' grows wakes) ]

  -- where one more is settled
  pub settled_more : (ds : List ℕ) (i : ℕ) → i < length ds → (q q' : Queued) → GrowsBy (IsOfClause cs) q q' →
      WakesIfMet cs disjunctions val (get_or ds i 0) q' →
      ((d : ℕ) → Stands d (take i ds) → WakesIfMet cs disjunctions val d q) →
      (d : ℕ) → Stands d (take (i + 1) ds) → WakesIfMet cs disjunctions val d q'
  settled_more ds i within q q' grows this old d s =
      elim (stands_cases (take i ds) (get_or ds i 0) d (subst (Stands d) (take_more ds i 0 within) s)) [
        | inl h ↦ wakes_still d q q' grows (old d h)
        | inr e ↦ subst (λ y. WakesIfMet cs disjunctions val y q') (sym e) this
      ]

-- a condition that isn't there has no literal, so it is met
got_past : {X Y : Type 0} (f : X → Y) (xs : List X) (i : ℕ) → length xs ≤ i → slice_get (map f xs) i ≡ None
got_past f [] i h = refl
got_past f (x ∷ xs) zero h = absurd (omega (arith, h))
got_past f (x ∷ xs) (suc i) h = got_past f xs i (omega (arith, h))

pub past_met : {A : Type 0} (val : Values) (ds : List (Disjunction A)) (d : ℕ) → length ds ≤ d →
    true ≡ are_literals_false val (condition_literals (stored_in [] [] ds) (Some d))
past_met val ds d h = ap (λ o. are_literals_false val (unwrap_or o []))
    (sym (got_past (λ disjunction. disjunction.literals.items) ds d h))

-- clauses that are woken from a number on, still are
pub all_stay : (clauses : List TrackedClause) (first : ℕ) (val : Values) (a b : Queued) →
    GrowsBy (IsOfClause clauses) a b → AllWokenFrom first clauses val a → AllWokenFrom first clauses val b
all_stay clauses first val a b grows woken n c e from t =
    queued_stays (IsOfClause clauses) a b c grows (woken n c e from t)
