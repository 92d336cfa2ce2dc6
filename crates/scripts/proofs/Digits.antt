-- Numbers of several digits, by pairs of them.
use Rattle.std.proofs.Common.{◌≡◌, ℕ, zero, suc, ◌+◌, ◌-◌, ◌*◌, ◌/◌, ◌%◌, ◌^◌, ◌<◌, ◌≤◌, Bool, true, ◌&&◌, T, eqb}
use Rattle.std.proofs.Common.{List, [], ◌∷◌, ◌++◌}
use Rattle.std.proofs.Common.{length, take, get_or, inl, inr, arith, ap, ap₂, sym, ◌∙◌, append_assoc, eqb→eq}
use Rattle.std.proofs.Common.{eq-zero-or-pos, Result, Ok, Err}
use Rattle.std.specs.Prelude.{decimal, if◌then◌else◌, is_ok}
use Rattle.std.specs.Io.{StartsWith}
use Rattle.std.proofs.lemmas.Fmt.{decimal_digit, decimal_step}
use Rattle.std.proofs.lemmas.List.{length-append}
use lib.Ieee.Fits.{and_l, and_r}
use Rattle.scripts.specs.declared.digit_pairs.TheConstants.{PAIRS}
use Rattle.scripts.specs.Replies.{Pushes, digit_pair}
use Rattle.scripts.proofs.Beginnings.{begins_more, begins_whole}

abbrev are_pairs : ℕ → Bool
are_pairs zero = true
are_pairs (suc n) = (eqb (get_or PAIRS (2 * n) 0) (48 + n / 10) && eqb (get_or PAIRS (2 * n + 1) 0) (48 + n % 10))
    && are_pairs n

below : (m n : ℕ) → T (are_pairs m) → n < m → (get_or PAIRS (2 * n) 0 ≡ 48 + n / 10)
    × (get_or PAIRS (2 * n + 1) 0 ≡ 48 + n % 10)
below zero n t h = absurd (omega arith)
below (suc m) n t h =
    elim (eq-zero-or-pos (m - n)) [
      | inl z ↦ let e : n ≡ m = omega arith in let a = and_l _ (are_pairs m) t in
          rw e (eqb→eq _ _ (and_l _ _ a), eqb→eq _ _ (and_r _ _ a))
      | inr g ↦ below m n (and_r _ (are_pairs m) t) (omega arith)
    ]

-- the digits of a number below 100 are in the table
pub pair_at : (n : ℕ) → n < 100 → get_or PAIRS (2 * n) 0 ∷ get_or PAIRS (2 * n + 1) 0 ∷ [] ≡ digit_pair n
pair_at n h = let digits = below 100 n tt h in ap₂ (λ tens ones. tens ∷ ones ∷ []) digits.0 digits.1

pub two_digits : (n : ℕ) → 10 ≤ n → n < 100 → decimal n ≡ digit_pair n
two_digits n large small =
    decimal_step n large (omega arith) ∙ ap (λ ds. ds ++ ((48 + n % 10) ∷ [])) (decimal_digit (n / 10) (omega arith))

pub two_more : (n : ℕ) → 100 ≤ n → n < 2 ^ 64 → decimal n ≡ decimal (n / 100) ++ digit_pair (n % 100)
two_more n large small =
    let hundreds : n / 10 / 10 ≡ n / 100 = omega arith in
    let tens : n / 10 % 10 ≡ n % 100 / 10 = omega arith in
    let ones : n % 10 ≡ n % 100 % 10 = omega arith in
    rw (
      decimal_step n (omega arith) small,
      decimal_step (n / 10) (omega arith) (omega arith),
      append_assoc,
      hundreds,
      tens,
      ← ones,
    )

-- so it has two digits more than its hundreds
pub two_longer : (n : ℕ) → 100 ≤ n → n < 2 ^ 64 → length (decimal n) ≡ length (decimal (n / 100)) + 2
two_longer n large small = ap length (two_more n large small) ∙ length-append (decimal (n / 100)) (digit_pair (n % 100))

pub three_digits : (n : ℕ) → 100 ≤ n → n < 1000 → decimal n ≡ (48 + n / 100) ∷ digit_pair (n % 100)
three_digits n large small =
    two_more n large (omega arith) ∙ ap (λ ds. ds ++ digit_pair (n % 100)) (decimal_digit (n / 100) (omega arith))

pub four_digits : (n : ℕ) → 1000 ≤ n → n < 10000 → decimal n ≡ digit_pair (n / 100) ++ digit_pair (n % 100)
four_digits n large small =
    two_more n (omega arith) (omega arith)
    ∙ ap (λ ds. ds ++ digit_pair (n % 100)) (two_digits (n / 100) (omega arith) (omega arith))

-- the last four digits of a number
abbrev pub last_four : ℕ → List ℕ
last_four n = digit_pair (n % 10000 / 100) ++ digit_pair (n % 10000 % 100)

pub four_more : (n : ℕ) → 10000 ≤ n → n < 2 ^ 64 → decimal n ≡ decimal (n / 10000) ++ last_four n
four_more n large small =
    let front : n / 100 / 100 ≡ n / 10000 = omega arith in
    let hundreds : n / 100 % 100 ≡ n % 10000 / 100 = omega arith in
    let ones : n % 100 ≡ n % 10000 % 100 = omega arith in
    rw (
      two_more n (omega arith) small,
      two_more (n / 100) (omega arith) (omega arith),
      append_assoc,
      front,
      hundreds,
      ones,
    )

pub five_digits : (n : ℕ) → 10000 ≤ n → n < 100000 → decimal n ≡ (48 + n / 10000) ∷ last_four n
five_digits n large small =
    four_more n large (omega arith) ∙ ap (λ ds. ds ++ last_four n) (decimal_digit (n / 10000) (omega arith))

-- a whole text is put at once
pub put : {T E : Type 0} (r : Result T E) (old new more whole : List ℕ) →
    new ≡ (if is_ok r then old ++ more else old) → whole ≡ more
    → Pushes r old new whole
put (Ok t) old new more whole e is = e ∙ ap (λ l. old ++ l) (sym is)
put (Err x) old new more whole e is = rw e (begins_whole old whole)

-- a text is put behind another one, or memory is refused at the first, or at the second
module _ (old front back whole : List ℕ) (is : whole ≡ front ++ back) where
  both : (old ++ front) ++ back ≡ old ++ whole
  both = append_assoc old front back ∙ ap (λ l. old ++ l) (sym is)

  pub begun : (new : List ℕ) → StartsWith (old ++ front) new → StartsWith (old ++ whole) new
  begun new h = ap (take (length new)) (sym both) ∙ begins_more (old ++ front) back new h

  pub put_behind : {T E : Type 0} (r : Result T E) (mid new : List ℕ) → mid ≡ old ++ front → Pushes r mid new back →
      Pushes r old new whole
  put_behind (Ok t) mid new e h = h ∙ ap (λ l. l ++ back) e ∙ both
  put_behind (Err x) mid new e h = ap (take (length new)) (sym (ap (λ l. l ++ back) e ∙ both)) ∙ h
