-- The nearest name: one count of edits after the other is tried.
use Rattle.std.proofs.Common.{◌≡◌, ◌∙◌, ℕ, zero, suc, ◌+◌, ◌<◌, ◌≤◌, true, List, Option, None, Some, ap, arith, sym}
use Rattle.std.proofs.Common.{add-one, inl, inr, is_some}
use Rattle.std.proofs.Math.Nat.{eq-or-lt_of_le}
use Rattle.std.specs.Option.{option_or}
use Rattle.resolvo_pool.specs.Provider.{Answers}
use Rattle.reports.specs.Nearest.{first_at, nearest_within}
use Rattle.reports.specs.declared.nearest_name.MeasuredName.{MeasuredName}

module _ {N S : Type 0} (answers : Answers N S) (names : List (MeasuredName N)) where
  -- what one edit more than `fewer` makes is the nearest one, if `fewer` edits make none
  found_within : (count fewer : ℕ) (name : N) → fewer < count → nearest_within answers names fewer ≡ None
      → first_at answers names (suc fewer) ≡ Some name → nearest_within answers names count ≡ Some name
  found_within zero fewer name below none first = absurd (omega arith)
  found_within (suc count) fewer name below none first =
      let least : fewer ≤ count = omega arith in
      let last : Option N → Option N = λ o. option_or o (first_at answers names (suc count)) in
      elim (eq-or-lt_of_le least) [
        | inl same ↦
            ap last (ap (nearest_within answers names) (sym same) ∙ none)
            ∙ (ap (λ (n : ℕ). first_at answers names (suc n)) (sym same) ∙ first)
        | inr less ↦ ap last (found_within count fewer name less none first)
      ]

  pub is_nearest : (count fewer : ℕ) (found : Option N) → fewer < count
      → nearest_within answers names fewer ≡ None → found ≡ first_at answers names (fewer + 1)
      → is_some found ≡ true → found ≡ nearest_within answers names count
  is_nearest count fewer None below none first some = cc
  is_nearest count fewer (Some name) below none first some =
      sym (found_within count fewer name below none
      (ap (first_at answers names) (sym (add-one fewer)) ∙ sym first))
