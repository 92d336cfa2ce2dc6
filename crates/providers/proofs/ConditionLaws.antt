-- Each known condition is one formula, and its normal form holds where it does.
use Rattle.std.proofs.Common.{◌≡◌, ℕ, zero, suc, ◌<◌, Bool, true, false, ◌&&◌, ◌||◌, List, [], ◌∷◌, ◌++◌, sym, refl}
use Rattle.std.proofs.Common.{subst, ◌∙◌, arith}
use Rattle.std.specs.Prelude.{map}
use Rattle.std.specs.List.{list_all, list_any}
use Rattle.std.proofs.lemmas.List.Folds.{list_any-append, list_all-append}
use Rattle.typed_ids.specs.declared.version_set_id.VersionSetId.{VersionSetId}
use Rattle.providers.specs.declared.condition.Condition.{Condition}
use Rattle.providers.specs.declared.condition.Condition.TheVariants.{Binary, Requirement}
use Rattle.providers.specs.Provider.{Universe, AreOperandsKnown, IsMadeOfKnown}
use Rattle.providers.specs.Conditions.{Formula, Leaf, Both, Either, joined, Denotes, leaf, binary, crossed}
use Rattle.providers.specs.Conditions.{normal_form, form_holds, formula_holds}

module _ {N S : Type 0} (c : Universe N S) where
  -- ---- a known condition is a formula

  pub denoted : AreOperandsKnown c → (n i : ℕ) → i < n → c.knows_condition i ≡ true → (f : Formula) × Denotes c i f
  denoted laws zero i below known = absurd (omega arith)
  denoted laws (suc n) i below known = go (c.condition i) refl (laws i known) (denoted laws n)
    where
      go : (condition : Condition) → c.condition i ≡ condition → IsMadeOfKnown c i condition →
          ((j : ℕ) → j < n → c.knows_condition j ≡ true → (f : Formula) × Denotes c j f) → (f : Formula) × Denotes c i f
      go (Requirement set) is made below_n = (Leaf set, leaf set is)
      go (Binary o left right) is made below_n =
          let f = below_n left (let l = made.1 in omega arith) made.0 in
          let g = below_n right (let r = made.3 in omega arith) made.2 in
          (joined o f.0 g.0, binary o left right f.0 g.0 is f.1 g.1)

  -- ---- and no other

  pub one_formula : {i : ℕ} {f g : Formula} → Denotes c i f → Denotes c i g → f ≡ g
  one_formula (leaf set is) d = of_leaf d is
    where
      of_leaf : {i : ℕ} {g : Formula} → Denotes c i g → c.condition i ≡ Requirement set → Leaf set ≡ g
      of_leaf (leaf set' is') is = let e = sym is ∙ is' in cc
      of_leaf (binary o left right f g is' a b) is = let e = sym is ∙ is' in cc
  one_formula (binary o left right f g is a b) d = of_binary d is (λ k d. one_formula a d) (λ k d. one_formula b d)
    where
      of_binary : {i : ℕ} {h : Formula} → Denotes c i h → c.condition i ≡ Binary o left right →
          ((k : Formula) → Denotes c left k → f ≡ k) → ((k : Formula) → Denotes c right k → g ≡ k) → joined o f g ≡ h
      of_binary (leaf set' is') is one_left one_right = let e = sym is ∙ is' in cc
      of_binary (binary o' left' right' f' g' is' a' b') is one_left one_right =
          let e : Binary o left right ≡ Binary o' left' right' = sym is ∙ is' in
          let of_o : o ≡ o' = cc in
          let of_left : left ≡ left' = cc in
          let of_right : right ≡ right' = cc in
          let of_f = one_left f' (subst (λ j. Denotes c j f') (sym of_left) a') in
          let of_g = one_right g' (subst (λ j. Denotes c j g') (sym of_right) b') in
          rw (of_o, of_f, of_g) refl

  -- ---- the formula of each condition

  pick : AreOperandsKnown c → (i : ℕ) → (b : Bool) → c.knows_condition i ≡ b → (f : Formula)
      × (b ≡ true → Denotes c i f)
  pick laws i true known = let d = denoted laws (suc i) i (omega arith) known in (d.0, λ h. d.1)
  pick laws i false known = (Leaf (record { 0 = 0 }), λ h. cc)

  -- the formula of a condition that is known, and any of another
  pub formula_at : AreOperandsKnown c → ℕ → Formula
  formula_at laws i = (pick laws i (c.knows_condition i) refl).0

  pub formula_at-denotes : (laws : AreOperandsKnown c) (i : ℕ) → c.knows_condition i ≡ true →
      Denotes c i (formula_at laws i)
  unfolding formula_at
  formula_at-denotes laws i known = (pick laws i (c.knows_condition i) refl).1 known

  pub is_formula : AreOperandsKnown c → (i : ℕ) → c.knows_condition i ≡ true → (f : Formula) × Denotes c i f
  is_formula laws i known = (formula_at laws i, formula_at-denotes laws i known)

-- ---- the normal form holds where the formula does

-- one left list with each right list behind it
one_holds : {V : Type 0} (holds : V → Bool) (x : List V) (ys : List (List V)) →
    list_any (list_all holds) (map (λ y. x ++ y) ys) ≡ (list_all holds x && list_any (list_all holds) ys)
one_holds holds x [] = none (list_all holds x)
  where
    none : (a : Bool) → false ≡ (a && false)
    none a = grind arith
one_holds holds x (y ∷ ys) = rw (list_all-append holds x y, one_holds holds x ys)
    (spread (list_all holds x) (list_all holds y) (list_any (list_all holds) ys))
  where
    spread : (a b c : Bool) → ((a && b) || (a && c)) ≡ (a && (b || c))
    spread a b c = grind arith

crossed_holds : {V : Type 0} (holds : V → Bool) (xs ys : List (List V)) →
    list_any (list_all holds) (crossed xs ys) ≡ (list_any (list_all holds) xs && list_any (list_all holds) ys)
crossed_holds holds [] ys = refl
crossed_holds holds (x ∷ xs) ys =
    rw (
      list_any-append (list_all holds) (map (λ y. x ++ y) ys) (crossed xs ys),
      one_holds holds x ys,
      crossed_holds holds xs ys,
    )
    (spread (list_all holds x) (list_any (list_all holds) xs) (list_any (list_all holds) ys))
  where
    spread : (a b c : Bool) → ((a && c) || (b && c)) ≡ ((a || b) && c)
    spread a b c = grind arith

pub form_keeps_truth : (holds : VersionSetId → Bool) (f : Formula) →
    form_holds holds (normal_form f) ≡ formula_holds holds f
form_keeps_truth holds (Leaf set) = one (holds set)
  where
    one : (a : Bool) → ((a && true) || false) ≡ a
    one a = grind arith
form_keeps_truth holds (Either f g) = rw (
  list_any-append (list_all holds) (normal_form f) (normal_form g),
  form_keeps_truth holds f,
  form_keeps_truth holds g,
) refl
form_keeps_truth holds (Both f g) =
    rw (crossed_holds holds (normal_form f) (normal_form g), form_keeps_truth holds f, form_keeps_truth holds g) refl
