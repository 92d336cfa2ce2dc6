-- How the digits of two numbers compare.
use Rattle.std.proofs.Common.{rules, ◌≡◌, ℕ, suc, ◌+◌, ◌*◌, ◌<◌, ◌≤◌, ◌==◌, List, [], ◌∷◌, length, take}
use Rattle.std.proofs.Common.{refl, sym, arith, inl, inr, true, false}
use Rattle.std.proofs.lemmas.Bool.{and_parts, cases_Bool, cases_order, eqb-false, eqb-true}
use Rattle.std.proofs.lemmas.Str.{digit_value_digit}
use Rattle.std.specs.Char.{digit_value, is_ascii_digit}
use Rattle.std.specs.Cmp.{nat_cmp_is}
use Rattle.std.specs.Cmp.Lexicographic.{slice_cmp}
use Rattle.std.specs.Int.{IsInRange}
use Rattle.std.specs.List.{list_all, prefix_len}
use Rattle.std.specs.Ordering.{nat_cmp, ordering_then}
use Rattle.std.specs.Str.Parse.{digits_value, digits_value_after}
use Rattle.std.specs.declared.cmp.Ordering.TheVariants.{Less, Equal, Greater}
use Rattle.debian_versions.specs.Steps.{strip_zeros}

pub digit-range : (c : ℕ) → is_ascii_digit c ≡ true → IsInRange 48 57 c
digit-range c d = search rules

-- the answers of `nat_cmp`
pub cmp-less : (x y : ℕ) → x < y → nat_cmp x y ≡ Less
cmp-less x y lt = sym (nat_cmp_is x y Less lt)

pub cmp-equal : (x y : ℕ) → x ≡ y → nat_cmp x y ≡ Equal
cmp-equal x y e = sym (nat_cmp_is x y Equal e)

pub cmp-greater : (x y : ℕ) → y < x → nat_cmp x y ≡ Greater
cmp-greater x y gt = sym (nat_cmp_is x y Greater gt)

digit-value : (c : ℕ) → is_ascii_digit c ≡ true → (digit_value c + 48 ≡ c) × (digit_value c < 10)
digit-value c d =
    let r = digit-range c d in
    let v = digit_value_digit c r in
    (v, omega arith)

-- a number that is larger before as many digits or more stays so
ahead : (x y : List ℕ) (p q : ℕ) → list_all is_ascii_digit x ≡ true → list_all is_ascii_digit y ≡ true → length y ≤
    length x → p < q
    → digits_value_after 10 p y < digits_value_after 10 q x
ahead [] [] p q dx dy le lt = lt
ahead [] (d ∷ ys) p q dx dy le lt = absurd (omega arith)
ahead (c ∷ xs) [] p q dx dy le lt = ahead xs [] p (q * 10 + digit_value c) (and_parts _ _ dx).1 refl (omega arith)
    (omega arith)
ahead (c ∷ xs) (d ∷ ys) p q dx dy le lt =
    let vd = digit-value d (and_parts _ _ dy).0 in
    ahead xs ys (p * 10 + digit_value d) (q * 10 + digit_value c) (and_parts _ _ dx).1 (and_parts _ _ dy).1
    (omega arith) (omega (arith, vd.1))

-- as many digits compare as their numbers do
same_length : (x y : List ℕ) (p : ℕ) → list_all is_ascii_digit x ≡ true → list_all is_ascii_digit y ≡ true → length
    x ≡ length y
    → slice_cmp nat_cmp x y ≡ nat_cmp (digits_value_after 10 p x) (digits_value_after 10 p y)
same_length [] [] p dx dy le = sym (cmp-equal p p refl)
same_length [] (d ∷ ys) p dx dy le = absurd (omega arith)
same_length (c ∷ xs) [] p dx dy le = absurd (omega arith)
same_length (c ∷ xs) (d ∷ ys) p dx dy le =
    let vc = digit-value c (and_parts (is_ascii_digit c) (list_all is_ascii_digit xs) dx).0 in
    let vd = digit-value d (and_parts (is_ascii_digit d) (list_all is_ascii_digit ys) dy).0 in
    let ex = (and_parts (is_ascii_digit c) (list_all is_ascii_digit xs) dx).1 in
    let ey = (and_parts (is_ascii_digit d) (list_all is_ascii_digit ys) dy).1 in
    let as_long : length xs ≡ length ys = omega arith in
    elim (cases_order c d) [
      | inl e ↦ rw (e, cmp-equal d d refl) (same_length xs ys (p * 10 + digit_value d) ex ey as_long)
      | inr (inl lt) ↦
          let no_longer : length xs ≤ length ys = omega (arith, as_long) in
          let less : p * 10 + digit_value c < p * 10 + digit_value d = omega (arith, vc.0, vd.0) in
          let far = ahead ys xs (p * 10 + digit_value c) (p * 10 + digit_value d) ey ex no_longer less in
          rw (cmp-less c d lt) (sym (cmp-less _ _ far))
      | inr (inr gt) ↦
          let no_longer : length ys ≤ length xs = omega (arith, as_long) in
          let less : p * 10 + digit_value d < p * 10 + digit_value c = omega (arith, vc.0, vd.0) in
          let far = ahead xs ys (p * 10 + digit_value d) (p * 10 + digit_value c) ex ey no_longer less in
          rw (cmp-greater c d gt) (sym (cmp-greater _ _ far))
    ]

strip-value : (x : List ℕ) → digits_value 10 (strip_zeros x) ≡ digits_value 10 x
unfolding strip_zeros
strip-value [] = refl
strip-value (b ∷ xs) = elim (cases_Bool (b == 48)) [
  | inl zero ↦ rw (zero, eqb-true b 48 zero) (strip-value xs)
  | inr other ↦ rw other refl
]

strip-digits : (x : List ℕ) → list_all is_ascii_digit x ≡ true → list_all is_ascii_digit (strip_zeros x) ≡ true
unfolding strip_zeros
strip-digits [] d = refl
strip-digits (b ∷ xs) d = elim (cases_Bool (b == 48)) [
  | inl zero ↦ rw zero (strip-digits xs (and_parts _ _ d).1)
  | inr other ↦ rw other d
]

-- with no zeros in front the longer number is the larger
longer : (x y : List ℕ) → list_all is_ascii_digit x ≡ true → list_all is_ascii_digit y ≡ true → length y < length
    (strip_zeros x)
    → digits_value 10 y < digits_value 10 (strip_zeros x)
unfolding strip_zeros
longer [] y dx dy lt = absurd (omega arith)
longer (b ∷ xs) y dx dy lt = elim (cases_Bool (b == 48)) [
  | inl zero ↦ rw zero (longer xs y (and_parts _ _ dx).1 dy (rw zero at lt))
  | inr other ↦
      let v = digit-value b (and_parts _ _ dx).0 in
      let ne = eqb-false b 48 other in
      let short : length y ≤ length xs = omega (arith, rw other at lt) in
      rw other (ahead xs y 0 (0 + digit_value b) (and_parts _ _ dx).1 dy short (omega (arith, v.0, ne)))
]

pub numbers-cmp : (x y : List ℕ) → list_all is_ascii_digit x ≡ true → list_all is_ascii_digit y ≡ true
    → ordering_then (nat_cmp (length (strip_zeros x)) (length (strip_zeros y)))
    (slice_cmp nat_cmp (strip_zeros x) (strip_zeros y))
    ≡ nat_cmp (digits_value 10 x) (digits_value 10 y)
numbers-cmp x y dx dy =
    let sx = strip-digits x dx in
    let sy = strip-digits y dy in
    elim (cases_order (length (strip_zeros x)) (length (strip_zeros y))) [
      | inl e ↦ rw (cmp-equal _ _ e, ← strip-value x, ← strip-value y)
          (same_length (strip_zeros x) (strip_zeros y) 0 sx sy e)
      | inr (inl lt) ↦
          let far = longer y (strip_zeros x) dy sx lt in
          rw (cmp-less _ _ lt, ← strip-value x, ← strip-value y, cmp-less _ _ far) refl
      | inr (inr gt) ↦
          let far = longer x (strip_zeros y) dx sy gt in
          rw (cmp-greater _ _ gt, ← strip-value x, ← strip-value y, cmp-greater _ _ far) refl
    ]

pub while-digits : (x : List ℕ) → list_all is_ascii_digit (take (prefix_len is_ascii_digit x) x) ≡ true
while-digits [] = refl
while-digits (c ∷ xs) = elim (cases_Bool (is_ascii_digit c)) [
  | inl d ↦
      let n : 1 + prefix_len is_ascii_digit xs ≡ suc (prefix_len is_ascii_digit xs) = omega arith in
      rw (d, n) (rw d (while-digits xs))
  | inr n ↦ rw n refl
]
