-- Sums over rows that are closed or open: a closed one adds nothing.
use Rattle.std.proofs.Common.{◌≡◌, ℕ, zero, suc, ◌+◌, ◌<◌, ◌≤◌, Bool, true, false, cond, List, [], ◌∷◌, length, get_or}
use Rattle.std.proofs.Common.{ap, arith}
use Rattle.std.proofs.lemmas.List.Sums.{get_or-le-sum_by, sum_by-le-sum_by, sum_by-cons}
use Rattle.clause_counters.proofs.Words.{sum_by}

module _ {R : Type 0} (closed : R → Bool) (number : R → ℕ) (nothing : R) where
  abbrev open_number : R → ℕ
  open_number r = cond (closed r) 0 (number r)

  open_le : (r : R) → open_number r ≤ number r
  open_le r = elim (closed r) as (λ b. cond b 0 (number r) ≤ number r) [
    | true ↦ omega arith
    | false ↦ omega arith
  ]

  -- an open row's number is part of the sum
  pub open_part : (rows : List R) (i : ℕ) → i < length rows → closed (get_or rows i nothing) ≡ false
      → number (get_or rows i nothing) ≤ sum_by open_number rows
  open_part rows i l open' =
      let at = get_or-le-sum_by open_number rows i nothing l in
      let is : open_number (get_or rows i nothing) ≡ number (get_or rows i nothing) =
      ap (λ b. cond b 0 (number (get_or rows i nothing))) open' in
      omega (arith, at, is)

  -- and a closed row's is no part of it
  pub closed_part : (rows : List R) (i : ℕ) → i < length rows → closed (get_or rows i nothing) ≡ true
      → sum_by open_number rows + number (get_or rows i nothing) ≤ sum_by number rows
  closed_part [] i l shut = absurd (omega (arith, l))
  closed_part (x ∷ xs) zero l shut =
      let none : ◌≡◌ {A = ℕ} (open_number x) 0 = ap (λ b. cond b 0 (number x)) shut in
      let rest = sum_by-le-sum_by open_number number xs open_le in
      let some = sum_by-cons open_number x xs in
      let all = sum_by-cons number x xs in
      omega (arith, none, rest, some, all)
  closed_part (x ∷ xs) (suc i) l shut =
      let first = open_le x in
      let rest = closed_part xs i (omega (arith, l)) shut in
      let some = sum_by-cons open_number x xs in
      let all = sum_by-cons number x xs in
      omega (arith, first, rest, some, all)
