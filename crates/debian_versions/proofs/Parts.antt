-- How a step over two parts follows their keys.
use Rattle.std.proofs.Common.{◌≡◌, ◌≢◌, ℕ, suc, ◌+◌, ◌<◌, ◌==◌, List, [], ◌∷◌, length, drop, take, refl, sym, ap, ◌∙◌}
use Rattle.std.proofs.Common.{arith, inl, inr, true, false}
use Rattle.std.proofs.lemmas.Bool.{cases_Bool}
use Rattle.std.specs.Char.{is_ascii_alphabetic, is_ascii_digit}
use Rattle.std.specs.Cmp.Lexicographic.{slice_cmp}
use Rattle.std.specs.FinMap.{nat_cmp-IsAntisymmetric}
use Rattle.std.specs.List.{prefix_len}
use Rattle.std.specs.Ordering.{nat_cmp, ordering_index, ordering_then}
use Rattle.std.specs.Prelude.{not}
use Rattle.std.specs.Str.Parse.{digits_value}
use Rattle.std.specs.declared.cmp.Ordering.{Ordering}
use Rattle.std.specs.declared.cmp.Ordering.TheVariants.{Less, Equal, Greater}
use Rattle.debian_versions.specs.Order.{keys, number, part_cmp, rank}
use Rattle.debian_versions.specs.Steps.{front_rank}
use Rattle.debian_versions.proofs.Numbers.{cmp-equal}

-- what a first comparison decides
pub then-other : (r s : Ordering) → r ≢ Equal → ordering_then r s ≡ r
then-other Less s ne = refl
then-other Equal s ne = absurd (ne refl)
then-other Greater s ne = refl

-- what `!=` of two orderings shows
pub equal_from_index : (r : Ordering) → false ≡ not (ordering_index r == 1) → r ≡ Equal
equal_from_index Less e = cc e
equal_from_index Equal e = refl
equal_from_index Greater e = cc e

pub other_from_index : (r : Ordering) → true ≡ not (ordering_index r == 1) → r ≢ Equal
other_from_index Less e = λ h. cc h
other_from_index Equal e = cc e
other_from_index Greater e = λ h. cc h

-- a rank is never that of the end
pub rank-not_end : (c : ℕ) → rank c ≢ 1
rank-not_end c e = elim (cases_Bool (c == 126)) [
  | inl t ↦ cc (rw t at e)
  | inr nt ↦ elim (cases_Bool (is_ascii_alphabetic c)) [
    | inl al ↦
        let one : c ≡ 1 = rw (nt, al) at e in
        cc (rw one at al)
    | inr other ↦
        let far : c + 256 ≡ 1 = rw (nt, other) at e in
        absurd (omega (arith, far))
  ]
]

-- the keys begin with the rank of the front
pub keys-front : (x : List ℕ) → keys false x ≡ front_rank x ∷ drop 1 (keys false x)
unfolding keys
keys-front [] = refl
keys-front (c ∷ xs) = elim (cases_Bool (is_ascii_digit c)) [
  | inl d ↦ rw d refl
  | inr n ↦ rw n refl
]

-- two fronts that differ decide
pub parts-differ : (x y : List ℕ) → front_rank x ≢ front_rank y → part_cmp x y ≡ nat_cmp (front_rank x) (front_rank y)
parts-differ x y ne =
    let other : nat_cmp (front_rank x) (front_rank y) ≢ Equal = λ e. ne (nat_cmp-IsAntisymmetric _ _ e) in
    ap (λ (l : List ℕ). slice_cmp nat_cmp l (keys false y)) (keys-front x)
    ∙ ap (λ (l : List ℕ). slice_cmp nat_cmp (front_rank x ∷ drop 1 (keys false x)) l) (keys-front y)
    ∙ then-other _ _ other

-- a front that is no end: a character stands there, and the keys go on behind it
pub keys-character : (x : List ℕ) → front_rank x ≢ 1 → (0 < length x) ×
    (keys false x ≡ front_rank x ∷ keys false (drop 1 x))
unfolding keys
keys-character [] ne = absurd (ne refl)
keys-character (c ∷ xs) ne = elim (cases_Bool (is_ascii_digit c)) [
  | inl d ↦ absurd (ne (rw d refl))
  | inr n ↦ (omega arith, rw n refl)
]

-- two characters of one rank
pub parts-character : (x y : List ℕ) → front_rank x ≡ front_rank y → front_rank x ≢ 1 → part_cmp x y ≡ part_cmp
    (drop 1 x) (drop 1 y)
parts-character x y e ne =
    let ny : front_rank y ≢ 1 = λ h. ne (e ∙ h) in
    ap (λ (l : List ℕ). slice_cmp nat_cmp l (keys false y)) (keys-character x ne).1
    ∙ ap (λ (l : List ℕ). slice_cmp nat_cmp (front_rank x ∷ keys false (drop 1 x)) l) (keys-character y ny).1
    ∙ ap (λ (r : Ordering). ordering_then r (part_cmp (drop 1 x) (drop 1 y))) (cmp-equal _ _ e)

-- the keys behind a digit skip the digits that follow
keys-skip : (x : List ℕ) → keys true x ≡ keys true (drop (prefix_len is_ascii_digit x) x)
unfolding keys
keys-skip [] = refl
keys-skip (c ∷ xs) = elim (cases_Bool (is_ascii_digit c)) [
  | inl d ↦
      let n : 1 + prefix_len is_ascii_digit xs ≡ suc (prefix_len is_ascii_digit xs) = omega arith in
      rw (d, n) (keys-skip xs)
  | inr n ↦ rw n (rw n refl)
]

-- a front that is the end: a number stands there
pub keys-number : (x : List ℕ) → front_rank x ≡ 1 → keys false x ≡ 1 ∷ number x ∷ keys true
    (drop (prefix_len is_ascii_digit x) x)
unfolding keys
keys-number [] e = refl
keys-number (c ∷ xs) e = elim (cases_Bool (is_ascii_digit c)) [
  | inl d ↦
      let n : 1 + prefix_len is_ascii_digit xs ≡ suc (prefix_len is_ascii_digit xs) = omega arith in
      rw (d, n) (ap (λ (l : List ℕ). 1 ∷ digits_value 10 (c ∷ take (prefix_len is_ascii_digit xs) xs) ∷ l)
      (keys-skip xs))
  | inr n ↦ absurd (rank-not_end c (rw n at e))
]

-- no digit stands behind the digits
pub number-stop : (x : List ℕ) → prefix_len is_ascii_digit (drop (prefix_len is_ascii_digit x) x) ≡ 0
number-stop [] = refl
number-stop (c ∷ xs) = elim (cases_Bool (is_ascii_digit c)) [
  | inl d ↦
      let n : 1 + prefix_len is_ascii_digit xs ≡ suc (prefix_len is_ascii_digit xs) = omega arith in
      rw (d, n) (number-stop xs)
  | inr n ↦ rw n (rw n refl)
]

-- where no digit stands at either front, it is the same whether digits stand before both
keys-either : (x y : List ℕ) → prefix_len is_ascii_digit x ≡ 0 → prefix_len is_ascii_digit y ≡ 0
    → slice_cmp nat_cmp (keys true x) (keys true y) ≡ part_cmp x y
unfolding keys
keys-either [] [] ex ey = refl
keys-either [] (d ∷ ys) ex ey = elim (cases_Bool (is_ascii_digit d)) [
  | inl t ↦ absurd (omega (arith, rw t at ey))
  | inr n ↦
      let other : nat_cmp 1 (rank d) ≢ Equal = λ e. rank-not_end d (sym (nat_cmp-IsAntisymmetric 1 (rank d) e)) in
      rw n (then-other _ _ other ∙ sym (then-other _ _ other))
]
keys-either (c ∷ xs) [] ex ey = elim (cases_Bool (is_ascii_digit c)) [
  | inl t ↦ absurd (omega (arith, rw t at ex))
  | inr n ↦
      let other : nat_cmp (rank c) 1 ≢ Equal = λ e. rank-not_end c (nat_cmp-IsAntisymmetric (rank c) 1 e) in
      rw n (then-other _ _ other ∙ sym (then-other _ _ other))
]
keys-either (c ∷ xs) (d ∷ ys) ex ey = elim (cases_Bool (is_ascii_digit c)) [
  | inl t ↦ absurd (omega (arith, rw t at ex))
  | inr n ↦ elim (cases_Bool (is_ascii_digit d)) [
    | inl t ↦ absurd (omega (arith, rw t at ey))
    | inr m ↦ rw (n, m) refl
  ]
]

-- two numbers decide first, and then what stands behind them
pub parts-number : (x y : List ℕ) → front_rank x ≡ 1 → front_rank y ≡ 1
    → part_cmp x y ≡ ordering_then (nat_cmp (number x) (number y))
    (part_cmp (drop (prefix_len is_ascii_digit x) x) (drop (prefix_len is_ascii_digit y) y))
parts-number x y ex ey =
    ap (λ (l : List ℕ). slice_cmp nat_cmp l (keys false y)) (keys-number x ex)
    ∙ ap (λ (l : List ℕ). slice_cmp nat_cmp (1 ∷ number x ∷ keys true (drop (prefix_len is_ascii_digit x) x)) l)
    (keys-number y ey)
    ∙ ap (λ (r : Ordering). ordering_then (nat_cmp (number x) (number y)) r)
    (keys-either (drop (prefix_len is_ascii_digit x) x) (drop (prefix_len is_ascii_digit y) y) (number-stop x)
    (number-stop y))

-- two texts that have ended
pub nil-parts : (x y : List ℕ) → length x ≡ 0 → length y ≡ 0 → part_cmp x y ≡ Equal
unfolding keys
nil-parts [] [] ex ey = refl
nil-parts [] (d ∷ ys) ex ey = absurd (omega (arith, ey))
nil-parts (c ∷ xs) y ex ey = absurd (omega (arith, ex))
