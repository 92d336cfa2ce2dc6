-- What a raised score, and what scores times a fraction, make of the largest score.
use Rattle.std.proofs.Common.{◌≡◌, ℕ, ◌≤◌, ◌*◌, ◌/◌, Bool, true, false, max, nat_lt, ◌⊎◌, inl, inr, refl, sym, ap}
use Rattle.std.proofs.Common.{subst, ◌∙◌, arith, true≢false}
use Rattle.std.specs.Prelude.{◌≢◌}
use Rattle.std.proofs.Math.Nat.{div-le_self, div-mul-le_self, mul-le-mul_right}
use Rattle.std.proofs.lemmas.Nat.{le-div}
use Rattle.std.proofs.lemmas.Map.Keys.{le_from_not_gt}
use Rattle.std.proofs.lemmas.Bool.Decides.{nat_tests}
use Rattle.std.specs.Ordering.{is_gt, nat_cmp}
use Rattle.typed_ids.specs.TotalMaps.{IsLargest, IsUpdate}

-- what isn't larger, by the order of numbers
not_gt : (a b : ℕ) → a ≤ b → is_gt (nat_cmp a b) ≡ false
not_gt a b h = grind (arith, nat_tests, h)

-- the larger one of two numbers is one of them
one_of : (a b : ℕ) → (max a b ≡ a) ⊎ (max a b ≡ b)
one_of a b = by (nat_lt b a) refl
  where
    by : (less : Bool) → nat_lt b a ≡ less → (max a b ≡ a) ⊎ (max a b ≡ b)
    by true h = inl (grind (arith, nat_tests, h))
    by false h = inr (grind (arith, nat_tests, h))

-- a fraction keeps the order
in_order : (a b numerator denominator : ℕ) → 1 ≤ denominator → a ≤ b →
    a * numerator / denominator ≤ b * numerator / denominator
in_order a b numerator denominator some h =
    let first = div-mul-le_self (a * numerator) denominator in
    let second = mul-le-mul_right numerator h in
    le-div (a * numerator / denominator) (b * numerator) denominator some (omega (arith, first, second))

module _ {N : Type 0} (values new : N → ℕ) (largest new_largest : ℕ) (is : IsLargest nat_cmp 0 values largest) where
  below : (key : N) → values key ≤ largest
  below key = le_from_not_gt (values key) largest (is.values_below key)

  -- the largest score times a fraction is the largest of the scores times it
  pub largest_decayed : (numerator denominator : ℕ) → 1 ≤ denominator
      → ((key : N) → new key ≡ values key * numerator / denominator) → new_largest ≡ largest * numerator / denominator
      → IsLargest nat_cmp 0 new new_largest
  largest_decayed numerator denominator some changed e = record {
    default_below = not_gt 0 new_largest (omega arith);
    values_below = λ key. not_gt (new key) new_largest (let kept =
        in_order (values key) largest numerator denominator some (below key) in
        omega (arith, kept, changed key, e));
    among = elim is.among [
      | inl zero ↦ inl (let none = div-le_self (0 * numerator) denominator in
          let now : new_largest ≡ 0 * numerator / denominator = e ∙ ap (λ s. s * numerator / denominator) zero in
          omega (arith, none, now))
      | inr (key, there) ↦ inr (key, e ∙ ap (λ s. s * numerator / denominator) there ∙ sym (changed key))
    ];
  }

  module _ (same : N → N → Bool) (reflexive : (key : N) → same key key ≡ true) (is_sameness : (a b : N) →
      same a b ≡ true → a ≡ b) where
    is_name : (key name : N) → (key ≡ name) ⊎ (key ≢ name)
    is_name key name = by (same key name) refl
      where
        by : (b : Bool) → same key name ≡ b → (key ≡ name) ⊎ (key ≢ name)
        by true h = inl (is_sameness key name h)
        by false h = inr (λ e. true≢false (sym (reflexive name) ∙ subst (λ k. same k name ≡ false) e h))

    -- where a score is raised, the largest is that one or stays
    pub largest_raised : (name : N) (score : ℕ) → values name ≤ score → IsUpdate values name score new →
        new_largest ≡ max largest score
        → IsLargest nat_cmp 0 new new_largest
    largest_raised name score raised update e = record {
      default_below = not_gt 0 new_largest (omega arith);
      values_below = λ key. not_gt (new key) new_largest (elim (is_name key name) [
        | inl same_name ↦ let now : new key ≡ score = ap new same_name ∙ update.0 in omega (arith, now, e)
        | inr other ↦ let kept = update.1 key other in let under = below key in omega (arith, kept, under, e)
      ]);
      among = elim (one_of largest score) [
        | inl stays ↦ stayed (e ∙ stays)
        | inr score_is ↦ inr (name, e ∙ score_is ∙ sym update.0)
      ];
    }
      where
        stayed : new_largest ≡ largest → (new_largest ≡ 0) ⊎ ((key : N) × (new_largest ≡ new key))
        stayed stays = elim is.among [
          | inl zero ↦ inl (stays ∙ zero)
          | inr (key, there) ↦ elim (is_name key name) [
            | inl same_name ↦ inr (
              name,
              (let was : largest ≡ values name = there ∙ ap values same_name in
                  let now = update.0 in
                  omega (arith, was, raised, now, e)),
            )
            | inr other ↦ inr (key, stays ∙ there ∙ sym (update.1 key other))
          ]
        ]
