-- Noted conditions, and the flags that say which are noted.
use Rattle.std.proofs.Common.{◌≡◌, ◌≢◌, ℕ, zero, suc, ◌<◌, ◌≤◌, Bool, true, false, cond, ◌||◌, inl, inr, List, [], ◌∷◌}
use Rattle.std.proofs.Common.{◌++◌, length, replicate, slice_get, Some, take, sym, ap, refl, ◌∙◌, subst, arith}
use Rattle.std.proofs.Math.ListN.{set}
use Rattle.std.proofs.lemmas.Option.{slice_get_within}
use Rattle.resolvo_queue.proofs.Words.{AreFlagged, here, is_noted, same_number, Stands, there}
use Rattle.resolvo_queue.proofs.Syncs.HotClause.{set_or_elsewhere}
use Rattle.resolvo_queue.proofs.Syncs.Noting.{same_is, self_same}

-- ---- noted, and in the list

pub noted_stands : (noted : List ℕ) (d : ℕ) → is_noted noted d ≡ true → Stands d noted
noted_stands [] d e = cc
noted_stands (x ∷ xs) d e = here_or_there x d xs (noted_stands xs d) e
  where
    here_or_there : (x d : ℕ) (xs : List ℕ) → (is_noted xs d ≡ true → Stands d xs) → is_noted (x ∷ xs) d ≡ true →
        Stands d (x ∷ xs)
    here_or_there x d xs rest h = go (same_number d x) refl h
      where
        go : (b : Bool) → same_number d x ≡ b → (b || is_noted xs d) ≡ true → Stands d (x ∷ xs)
        go true same i = subst (λ y. Stands d (y ∷ xs)) (same_is d x same) here
        go false other i = there (rest i)

same_turned : (a b : ℕ) → same_number a b ≡ same_number b a
same_turned a b = go (same_number a b) (same_number b a) refl refl
  where
    go : (s t : Bool) → same_number a b ≡ s → same_number b a ≡ t → s ≡ t
    go true true p q = refl
    go false false p q = refl
    go true false p q =
        let is : a ≡ b = same_is a b p in
        let back : same_number b a ≡ true = subst (λ y. same_number y a ≡ true) is (self_same a) in cc
    go false true p q =
        let is : b ≡ a = same_is b a q in
        let back : same_number a b ≡ true = subst (λ y. same_number y b ≡ true) is (self_same b) in cc

-- one more at the end
pub noted_pushed : (xs : List ℕ) (x d : ℕ) → is_noted (xs ++ x ∷ []) d ≡ cond (same_number x d) true (is_noted xs d)
noted_pushed [] x d = go (same_number d x) (same_number x d) (same_turned d x)
  where
    go : (a b : Bool) → a ≡ b → (a || false) ≡ cond b true false
    go true true e = refl
    go false false e = refl
    go true false e = cc
    go false true e = cc
noted_pushed (y ∷ xs) x d = go (same_number d y) (same_number x d) (noted_pushed xs x d)
  where
    go : (a b : Bool) → is_noted (xs ++ x ∷ []) d ≡ cond b true (is_noted xs d) →
        (a || is_noted (xs ++ x ∷ []) d) ≡ cond b true (a || is_noted xs d)
    go true true e = refl
    go true false e = refl
    go false b e = e

-- ---- flags

pub flagged_pushed : (xs : List ℕ) (x : ℕ) (flags : List Bool) → AreFlagged xs flags →
    AreFlagged (xs ++ x ∷ []) (set flags x true)
flagged_pushed xs x flags flagged d is = noted_pushed xs x d ∙ elim (set_or_elsewhere flags x true d true is) [
  | inl e ↦ ap (λ b. cond b true (is_noted xs d)) (subst (λ y. same_number x y ≡ true) (sym e.1) (self_same x))
  | inr o ↦ still (same_number x d) (flagged d o.0)
]
  where
    still : (b : Bool) → is_noted xs d ≡ true → cond b true (is_noted xs d) ≡ true
    still true h = refl
    still false h = h

no_flag : (k d : ℕ) → slice_get (replicate k false) d ≡ Some true → ⊥
no_flag zero d is = cc
no_flag (suc k) zero is = cc
no_flag (suc k) (suc d) is = no_flag k d is

-- room for more, without flags
had_flag : (flags : List Bool) (n k d : ℕ) → slice_get (take n flags ++ replicate k false) d ≡ Some true →
    slice_get flags d ≡ Some true
had_flag [] zero k d is = absurd (no_flag k d is)
had_flag [] (suc n) k d is = absurd (no_flag k d is)
had_flag (f ∷ fs) zero k d is = absurd (no_flag k d is)
had_flag (f ∷ fs) (suc n) k zero is = is
had_flag (f ∷ fs) (suc n) k (suc d) is = had_flag fs n k d is

pub flagged_grown : (noted : List ℕ) (flags : List Bool) (n k : ℕ) → AreFlagged noted flags →
    AreFlagged noted (take n flags ++ replicate k false)
flagged_grown noted flags n k flagged d is = flagged d (had_flag flags n k d is)

-- what isn't the last one is among the others
popped_still : (items xs : List ℕ) (x d : ℕ) → items ≡ xs ++ x ∷ [] → d ≢ x → is_noted items d ≡ true →
    is_noted xs d ≡ true
popped_still items xs x d is other noted = go (same_number x d) refl
    (sym (noted_pushed xs x d) ∙ (ap (λ l. is_noted l d) (sym is) ∙ noted))
  where
    go : (b : Bool) → same_number x d ≡ b → cond b true (is_noted xs d) ≡ true → is_noted xs d ≡ true
    go true e h = absurd (other (sym (same_is x d e)))
    go false e h = h

pub flagged_popped : (items xs : List ℕ) (x : ℕ) (flags : List Bool) → items ≡ xs ++ x ∷ [] → AreFlagged items flags →
    AreFlagged xs (set flags x false)
flagged_popped items xs x flags is flagged d flag = elim (set_or_elsewhere flags x false d true flag) [
  | inl e ↦ (let bad : false ≡ true = e.0 in cc)
  | inr o ↦ popped_still items xs x d is o.1 (flagged d o.0)
]

-- where it has no flag
pub flagged_past : (items xs : List ℕ) (x : ℕ) (flags : List Bool) → items ≡ xs ++ x ∷ [] → length flags ≤ x →
    AreFlagged items flags → AreFlagged xs flags
flagged_past items xs x flags is past flagged d flag =
    let within : d < length flags = slice_get_within flags d true flag in
    popped_still items xs x d is (λ e. omega (arith, e, within, past)) (flagged d flag)
