-- What stands at a place of a list, and what holds of all that the places give.
use Rattle.std.proofs.Common.{◌≡◌, ℕ, zero, suc, ◌+◌, ◌<◌, List, [], ◌∷◌, ◌++◌, ◌⊎◌, inl, inr, ap, refl, subst, arith}
use Rattle.std.proofs.Common.{length, get_or, add-zero}
use Rattle.std.specs.Prelude.{map, Contains}
use Rattle.std.specs.List.{AllByRecursion, enumerate_from}

pub data At {V : Type 0} : List V → ℕ → V → Type 0 where
  here : {x : V} {xs : List V} → At (x ∷ xs) zero x
  there : {x y : V} {xs : List V} {i : ℕ} → At xs i x → At (y ∷ xs) (suc i) x

pub at_left : {V : Type 0} {xs : List V} (ys : List V) {i : ℕ} {x : V} → At xs i x → At (xs ++ ys) i x
at_left ys here = here
at_left ys (there m) = there (at_left ys m)

pub at_last : {V : Type 0} (xs : List V) (x : V) → At (xs ++ x ∷ []) (length xs) x
at_last [] x = here
at_last (y ∷ xs) x = there (at_last xs x)

pub at_cases : {V : Type 0} (xs : List V) (y : V) {i : ℕ} {x : V} → At (xs ++ y ∷ []) i x → At xs i x
    ⊎ ((i ≡ length xs) × (x ≡ y))
at_cases [] y here = inr (refl, refl)
at_cases [] y (there m) = elim m [ ]
at_cases (z ∷ xs) y here = inl here
at_cases (z ∷ xs) y (there m) = elim (at_cases xs y m) [ inl k ↦ inl (there k) | inr e ↦ inr (ap suc e.0, e.1) ]

pub at_within : {V : Type 0} {xs : List V} {i : ℕ} {x : V} → At xs i x → i < length xs
at_within here = omega arith
at_within (there m) = let k = at_within m in omega arith

pub at_one : {V : Type 0} {xs : List V} {i : ℕ} {x y : V} → At xs i x → At xs i y → x ≡ y
at_one here here = refl
at_one (there m) (there k) = at_one m k

pub contains_at : {V : Type 0} {xs : List V} {i : ℕ} {x : V} → At xs i x → Contains xs x
contains_at here = (0, omega arith, refl)
contains_at (there m) = let c = contains_at m in (suc c.0, omega arith, c.2)

at_place : {V : Type 0} (xs : List V) (k : ℕ) (d : V) → k < length xs → At xs k (get_or xs k d)
at_place [] k d h = absurd (omega arith)
at_place (x ∷ xs) zero d h = here
at_place (x ∷ xs) (suc k) d h = there (at_place xs k d (omega arith))

pub at_contained : {V : Type 0} (xs : List V) (x : V) → Contains xs x → (i : ℕ) × At xs i x
at_contained xs x c = (c.0, subst (At xs c.0) c.2 (at_place xs c.0 x c.1))

-- ---- all of a list, and of what its places give

pub all-append : {A : Type 0} (P : A → Type 0) (xs ys : List A) → AllByRecursion P xs → AllByRecursion P ys →
    AllByRecursion P (xs ++ ys)
all-append P [] ys p q = q
all-append P (x ∷ xs) ys p q = (p.0, all-append P xs ys p.1 q)

pub all-parts : {A : Type 0} (P : A → Type 0) (xs ys : List A) → AllByRecursion P (xs ++ ys) → AllByRecursion P xs
    × AllByRecursion P ys
all-parts P [] ys p = (tt, p)
all-parts P (x ∷ xs) ys p = let q = all-parts P xs ys p.1 in ((p.0, q.0), q.1)

module _ {A V : Type 0} (Q : A → Type 0) (f : ℕ × V → A) where
  pub at_enumerated : (n : ℕ) (xs : List V) {i : ℕ} {x : V} → AllByRecursion Q (map f (enumerate_from n xs)) →
      At xs i x → Q (f (n + i, x))
  at_enumerated n [] q m = elim m [ ]
  at_enumerated n (y ∷ xs) q here = rw add-zero q.0
  at_enumerated n (y ∷ xs) {i = suc i} {x = x} q (there m) =
      let e : (n + 1) + i ≡ n + suc i = omega arith in
      subst (λ k. Q (f (k, x))) e (at_enumerated (n + 1) xs q.1 m)

  pub all_enumerated : (n : ℕ) (xs : List V) → ((i : ℕ) (x : V) → At xs i x → Q (f (n + i, x))) →
      AllByRecursion Q (map f (enumerate_from n xs))
  all_enumerated n [] h = tt
  all_enumerated n (y ∷ xs) h = (
    let e : n + 0 ≡ n = omega arith in subst (λ k. Q (f (k, y))) e (h 0 y here),
    all_enumerated (n + 1) xs (λ i x m. let e : n + suc i ≡ (n + 1) + i = omega arith in
        subst (λ k. Q (f (k, x))) e (h (suc i) x (there m))),
  )
