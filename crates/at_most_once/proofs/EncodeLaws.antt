-- The helpers encode "at most one": they spell the number of each true variable.
use Rattle.std.proofs.Common.{◌≡◌, ℕ, zero, suc, ◌+◌, ◌^◌, ◌<◌, ◌≤◌, Bool, true, false, not, ◌||◌, cond, List}
use Rattle.std.proofs.Common.{[], ◌∷◌, ◌⊎◌, inl, inr, sym, ap, refl, subst, ◌∙◌, arith, length, add-zero}
use Rattle.std.specs.Prelude.{Contains}
use Rattle.std.specs.Bool.{beq}
use Rattle.std.specs.List.{list_any}
use Rattle.std.specs.Int.{bit_at}
use Rattle.std.proofs.lemmas.Bool.Decides.{nat_tests}
use Rattle.std.proofs.lemmas.Nat.Bits.{same_from_bits_below, bit_at-lt}
use Rattle.std.specs.Cmp.{IsEquivalence}
use Rattle.at_most_once.specs.AtMostOne.{Tracker, BitClause, Adds, has_bit, is_satisfied, AtMostOne, AreSatisfiable}
use Rattle.at_most_once.proofs.Places.{At, here, there, at_within, at_one, contains_at, at_contained}
use Rattle.at_most_once.proofs.GridLaws.{Grid, grid_from_met, met_from_grid}
use Rattle.at_most_once.proofs.AddLaws.{Once, none_same, any_none, apart, one_place, has_enough}

-- a met c of a true variable: the helper has the bit
met_spells : (x h bit : Bool) → (not x || beq h bit) ≡ true → x ≡ true → h ≡ bit
met_spells false h bit e p = cc
met_spells true true true e p = refl
met_spells true false false e p = refl
met_spells true true false e p = cc
met_spells true false true e p = cc

same_bit : (i j b : ℕ) → has_bit i b ≡ has_bit j b → bit_at i b ≡ bit_at j b
same_bit i j b e = grind (arith, nat_tests, bit_at-lt i b, bit_at-lt j b)

at_some : {V : Type 0} (xs : List V) (k : ℕ) → k < length xs → (d : V) × At xs k d
at_some [] k l = absurd (omega arith)
at_some (x ∷ xs) zero l = (x, here)
at_some (x ∷ xs) (suc k) l = let r = at_some xs k (omega arith) in (r.0, there r.1)

-- met clauses: two true variables have the same number
one_number : {V : Type 0} (a : V → Bool) (tracked helpers : List V) → length tracked ≤ 2 ^ length helpers →
    Grid a tracked helpers →
    (i j : ℕ) (v w : V) → At tracked i v → At tracked j w → a v ≡ true → a w ≡ true → i ≡ j
one_number a tracked helpers enough grid i j v w m n p q =
    same_from_bits_below (length helpers) i j (let k = at_within m in omega arith) (let k = at_within n in omega arith)
    (λ b l. same_bit i j b (let d = at_some helpers b l in
    sym (met_spells (a v) (a d.0) (has_bit i b) (grid i b v d.0 m d.1) p)
    ∙ met_spells (a w) (a d.0) (has_bit j b) (grid j b w d.0 n d.1) q))

-- the helpers spell the number i; every other variable is as before
abbrev spelled : {V : Type 0} → (V → V → Bool) → (V → Bool) → ℕ → ℕ → List V → V → Bool
spelled same x i b [] u = x u
spelled same x i b (h ∷ hs) u = cond (same u h) (has_bit i b) (spelled same x i (b + 1) hs u)

module _ {V : Type 0} (same : V → V → Bool) (laws : IsEquivalence same) (x : V → Bool) (i : ℕ) where
  once_rest : (y : V) (ys : List V) → Once same (y ∷ ys) → Once same ys
  once_rest y ys o k j z w l m n = o (suc k) (suc j) z w (omega arith) (there m) (there n)

  spelled_helper : (n : ℕ) (hs : List V) (b : ℕ) (h : V) → At hs b h → Once same hs →
      spelled same x i n hs h ≡ has_bit i (n + b)
  spelled_helper n [] b h m o = elim m [ ]
  spelled_helper n (y ∷ ys) zero h here o = rw (laws.refl y, add-zero)
  spelled_helper n (y ∷ ys) (suc b) h (there m) o =
      other (same h y) refl (spelled_helper (n + 1) ys b h m (once_rest y ys o))
    where
      other : (t : Bool) → same h y ≡ t → spelled same x i (n + 1) ys h ≡ has_bit i ((n + 1) + b) →
          cond t (has_bit i n) (spelled same x i (n + 1) ys h) ≡ has_bit i (n + suc b)
      other true e q = absurd (let z : true ≡ false = sym e ∙ o 0 (suc b) y h (omega arith) here (there m) in cc)
      other false e q = q ∙ (let k : (n + 1) + b ≡ n + suc b = omega arith in ap (has_bit i) k)

  spelled_other : (n : ℕ) (hs : List V) (u : V) → ((b : ℕ) (h : V) → At hs b h → same u h ≡ false) →
      spelled same x i n hs u ≡ x u
  spelled_other n [] u out = refl
  spelled_other n (y ∷ ys) u out = rw (out 0 y here) (spelled_other (n + 1) ys u (λ b h m. out (suc b) h (there m)))

-- a true variable of the list, if there is one
true_one : {V : Type 0} (x : V → Bool) (xs : List V) → ((i : ℕ) × (v : V) × At xs i v × (x v ≡ true))
    ⊎ ((i : ℕ) (v : V) → At xs i v → x v ≡ false)
true_one x [] = inr (λ i v m. elim m [ ])
true_one {V} x (y ∷ ys) = go (x y) refl (true_one x ys)
  where
    at_front : x y ≡ false → ((i : ℕ) (v : V) → At ys i v → x v ≡ false) → {i : ℕ} {v : V} → At (y ∷ ys) i v →
        x v ≡ false
    at_front e rest m = front m e (λ k n. rest k _ n)
      where
        front : {z : V} {zs : List V} {i : ℕ} {v : V} → At (z ∷ zs) i v → x z ≡ false →
            ((k : ℕ) → At zs k v → x v ≡ false) → x v ≡ false
        front here e r = e
        front (there n) e r = r _ n

    go : (t : Bool) → x y ≡ t → ((i : ℕ) × (v : V) × At ys i v × (x v ≡ true))
        ⊎ ((i : ℕ) (v : V) → At ys i v → x v ≡ false) →
        ((i : ℕ) × (v : V) × At (y ∷ ys) i v × (x v ≡ true)) ⊎ ((i : ℕ) (v : V) → At (y ∷ ys) i v → x v ≡ false)
    go true e r = inl (0, y, here, e)
    go false e (inl f) = inl (suc f.0, f.1, there f.2, f.3)
    go false e (inr n) = inr (λ i v m. at_front e n m)

false_is_met : (h bit : Bool) (x : Bool) → x ≡ false → (not x || beq h bit) ≡ true
false_is_met h bit false e = refl
false_is_met h bit true e = cc

same_is_met : (x h bit : Bool) → h ≡ bit → (not x || beq h bit) ≡ true
same_is_met false h bit e = refl
same_is_met true true true e = refl
same_is_met true false false e = refl
same_is_met true true false e = cc
same_is_met true false true e = cc

module _ {V : Type 0} (same : V → V → Bool) (laws : IsEquivalence same) (t : Tracker V) (cs : List (BitClause V))
    (adds : Adds same t cs) where
  pub no_helpers : (v : V) → Contains t.variables v → list_any (same v) t.helpers ≡ false
  no_helpers v c =
      let p = at_contained t.variables v c in
      any_none (same v) t.helpers (λ b h n. (apart same laws adds).no_helper p.0 b v h p.1 n)

module _ {V : Type 0} (same : V → V → Bool) (laws : IsEquivalence same) (t : Tracker V) (cs : List (BitClause V))
    (adds : Adds same t cs) (x : V → Bool) where
  -- the helpers spelling the number i; all else as given
  choice : ℕ → V → Bool
  choice i = spelled same x i 0 t.helpers

  choice-other : (i : ℕ) (v : V) → list_any (same v) t.helpers ≡ false → choice i v ≡ x v
  unfolding choice
  choice-other i v e = spelled_other same laws x i 0 t.helpers v (λ b h n. none_same (same v) t.helpers e n)

  choice-tracked : (i j : ℕ) (v : V) → At t.variables j v → choice i v ≡ x v
  choice-tracked i j v m = choice-other i v (no_helpers same laws t cs adds v (contains_at m))

  choice-helper : (i b : ℕ) (h : V) → At t.helpers b h → choice i h ≡ has_bit i b
  unfolding choice
  choice-helper i b h n = spelled_helper same laws x i 0 t.helpers b h n (apart same laws adds).helpers_once ∙
      (let e : 0 + b ≡ b = omega arith in ap (has_bit i) e)

  choice-satisfies : (i : ℕ) → ((j : ℕ) (v : V) → At t.variables j v → (x v ≡ false) ⊎ (j ≡ i)) →
      AreSatisfiable same is_satisfied x t.helpers cs
  choice-satisfies i only = (
    choice i,
    choice-other i,
    met_from_grid same (choice i) adds (λ j b v h m n.
        elim (only j v m) [
          | inl e ↦ false_is_met (choice i h) (has_bit j b) (choice i v) (choice-tracked i j v m ∙ e)
          | inr e ↦ same_is_met (choice i v) (choice i h) (has_bit j b) (choice-helper i b h n
              ∙ ap (λ k. has_bit k b) (sym e))
        ]),
  )

  pub can_be_met : AtMostOne x t.variables → AreSatisfiable same is_satisfied x t.helpers cs
  can_be_met one =
      elim (true_one x t.variables) [
        | inl f ↦ choice-satisfies f.0 (λ j v m. decided j v m (x v) refl f.0 f.1 f.2 f.3)
        | inr all_false ↦ choice-satisfies 0 (λ j v m. inl (all_false j v m))
      ]
    where
      decided : (j : ℕ) (v : V) → At t.variables j v → (b : Bool) → x v ≡ b → (i : ℕ) (w : V) → At t.variables i w →
          x w ≡ true → (x v ≡ false) ⊎ (j ≡ i)
      decided j v m false e i w n p = inl e
      decided j v m true e i w n p =
          inr (one_place same laws t.variables (apart same laws adds).tracked_once j i v m
          (subst (At t.variables i) (sym (one v w (contains_at m) (contains_at n) e p)) n))

  pub at_most_one : AreSatisfiable same is_satisfied x t.helpers cs → AtMostOne x t.variables
  at_most_one met v w c d p q =
      let others = no_helpers same laws t cs adds in
      let m = at_contained t.variables v c in
      let n = at_contained t.variables w d in
      let e : m.0 ≡ n.0 = one_number met.0 t.variables t.helpers (has_enough adds).enough
      (grid_from_met same met.0 adds met.2) m.0 n.0 v w m.1 n.1 (met.1 v (others v c) ∙ p) (met.1 w (others w d) ∙ q) in
      at_one (subst (λ k. At t.variables k v) e m.1) n.1
