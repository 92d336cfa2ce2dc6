-- Members of lists: that they stand in them, that the lists contain them, and what stands at a place; and tests.
use Rattle.std.proofs.Common.{◌≡◌, ℕ, zero, suc, ◌<◌, ◌≤◌, List, [], ◌∷◌, ◌++◌, filter, length, get_or, Some, slice_get}
use Rattle.std.proofs.Common.{refl, arith, sym, subst, Bool, true, false, cond, ◌≢◌, eqb, eqb-true, eq-eqb, ltb}
use Rattle.std.proofs.Common.{ltb-true, ltb-false, ◌⊎◌, inl, inr}
use Rattle.std.specs.Prelude.{Contains}
use Rattle.resolvo_queue.specs.Members.{Stands, here, there}

-- ---- tests and options

pub same_some : {X : Type 0} (a b : X) → Some a ≡ Some b → a ≡ b
same_some a b s = cc

pub differ : true ≡ false → ⊥
differ h = cc

pub same_or_not : (a b : ℕ) → (a ≡ b) ⊎ (a ≢ b)
same_or_not a b = go (eqb a b) refl
  where
    go : (t : Bool) → eqb a b ≡ t → (a ≡ b) ⊎ (a ≢ b)
    go true e = inl (eqb-true a b e)
    go false e = inr (λ s. let bad : eqb a b ≡ true = eq-eqb a b s in cc)

pub no_or_yes : (b : Bool) → (b ≡ true → ⊥) → b ≡ false
no_or_yes true h = absurd (h refl)
no_or_yes false h = refl

pub le_or_lt : (a b : ℕ) → (a ≤ b) ⊎ (b < a)
le_or_lt a b = go (ltb b a) refl
  where
    go : (t : Bool) → ltb b a ≡ t → (a ≤ b) ⊎ (b < a)
    go true e = inr (ltb-true b a e)
    go false e = inl (ltb-false b a e)

-- ---- members

-- what was read stands in the list
pub read_stands : {X : Type 0} (xs : List X) (n : ℕ) (d : X) → n < length xs → Stands (get_or xs n d) xs
read_stands [] n d h = absurd (omega arith)
read_stands (x ∷ xs) zero d h = here
read_stands (x ∷ xs) (suc n) d h = there (read_stands xs n d (omega arith))

pub stands_if_contains : {X : Type 0} (xs : List X) (x : X) → Contains xs x → Stands x xs
stands_if_contains xs x c = subst (λ y. Stands y xs) c.2 (read_stands xs c.0 x c.1)

pub contains_if_stands : {X : Type 0} (xs : List X) (x : X) → Stands x xs → Contains xs x
contains_if_stands [] x s = elim s [ ]
contains_if_stands (y ∷ ys) x here = (0, omega arith, refl)
contains_if_stands (y ∷ ys) x (there s) =
    let c = contains_if_stands ys x s in
    (suc c.0, (let h : c.0 < length ys = c.1 in omega arith), c.2)

pub stands_at : {X : Type 0} (xs : List X) (n : ℕ) (x : X) → slice_get xs n ≡ Some x → Stands x xs
stands_at [] n x is = cc
stands_at (y ∷ ys) zero x is = subst (λ z. Stands z (y ∷ ys)) (same_some y x is) here
stands_at (y ∷ ys) (suc n) x is = there (stands_at ys n x is)

module _ {X : Type 0} where
  at_front : (t : X → Bool) (ys zs : List X) (x y : X) → Stands x (y ∷ zs) → t y ≡ true →
      (Stands x zs → Stands x ys × (t x ≡ true)) → Stands x (y ∷ ys) × (t x ≡ true)
  at_front t ys zs y z here e more = (here, e)
  at_front t ys zs x y (there r) e more = let m = more r in (there m.0, m.1)

  pub stands_filter : (t : X → Bool) (xs : List X) (x : X) → Stands x (filter t xs) → Stands x xs × (t x ≡ true)
  stands_filter t [] x s = elim s [ ]
  stands_filter t (y ∷ ys) x s = go (t y) refl s (stands_filter t ys x)
    where
      go : (b : Bool) → t y ≡ b → Stands x (cond b (y ∷ filter t ys) (filter t ys)) →
          (Stands x (filter t ys) → Stands x ys × (t x ≡ true)) → Stands x (y ∷ ys) × (t x ≡ true)
      go true e r more = at_front t ys (filter t ys) x y r e more
      go false e r more = let m = more r in (there m.0, m.1)

  pub filter_stands : (t : X → Bool) (xs : List X) (x : X) → Stands x xs → t x ≡ true → Stands x (filter t xs)
  filter_stands t [] x s e = elim s [ ]
  filter_stands t (y ∷ ys) z here e = subst (λ b. Stands y (cond b (y ∷ filter t ys) (filter t ys))) (sym e) here
  filter_stands t (y ∷ ys) x (there s) e = go (t y) (filter_stands t ys x s e)
    where
      go : (b : Bool) → Stands x (filter t ys) → Stands x (cond b (y ∷ filter t ys) (filter t ys))
      go true r = there r
      go false r = r

  pub stands_append : (xs ys : List X) (x : X) → Stands x (xs ++ ys) → Stands x xs ⊎ Stands x ys
  stands_append [] ys x s = inr s
  stands_append (z ∷ zs) ys y here = inl here
  stands_append (z ∷ zs) ys x (there s) = elim (stands_append zs ys x s) [ inl a ↦ inl (there a) | inr b ↦ inr b ]

  pub append_left : (xs ys : List X) (x : X) → Stands x xs → Stands x (xs ++ ys)
  append_left [] ys x s = elim s [ ]
  append_left (z ∷ zs) ys y here = here
  append_left (z ∷ zs) ys x (there s) = there (append_left zs ys x s)

  pub append_right : (xs ys : List X) (x : X) → Stands x ys → Stands x (xs ++ ys)
  append_right [] ys x s = s
  append_right (z ∷ zs) ys x s = there (append_right zs ys x s)

pub stands_last : {X : Type 0} (xs : List X) (x : X) → Stands x (xs ++ x ∷ [])
stands_last [] x = here
stands_last (y ∷ ys) x = there (stands_last ys x)

pub stands_cases : {X : Type 0} (xs : List X) (y x : X) → Stands x (xs ++ y ∷ []) → Stands x xs ⊎ (x ≡ y)
stands_cases [] y x here = inr refl
stands_cases [] y x (there s) = elim s [ ]
stands_cases (z ∷ zs) y x here = inl here
stands_cases (z ∷ zs) y x (there s) = elim (stands_cases zs y x s) [ inl h ↦ inl (there h) | inr e ↦ inr e ]
