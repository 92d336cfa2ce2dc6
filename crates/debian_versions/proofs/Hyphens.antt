-- Where the last hyphen stands.
use Rattle.std.proofs.Common.{◌≡◌, ℕ, zero, suc, ◌+◌, ◌<◌, ◌==◌, List, [], ◌∷◌, length, drop, slice_index, refl}
use Rattle.std.proofs.Common.{arith, inl, inr, true, false}
use Rattle.std.proofs.lemmas.Bool.{cases_Bool}
use Rattle.std.proofs.lemmas.List.{drop_more}
use Rattle.std.specs.List.{list_any}
use Rattle.debian_versions.specs.Order.{upstream_len}

-- no hyphen at place n and none behind it
pub none-step : (xs : List ℕ) (n : ℕ) → n < length xs → (slice_index xs n == 45) ≡ false → list_any (λ b. b == 45)
    (drop (n + 1) xs) ≡ false
    → list_any (λ b. b == 45) (drop n xs) ≡ false
none-step xs n lt d none = rw (drop_more xs n 0 lt, d) none

-- no hyphen at all
pub upstream-all : (xs : List ℕ) → list_any (λ b. b == 45) xs ≡ false → upstream_len xs ≡ length xs
unfolding upstream_len
upstream-all [] e = refl
upstream-all (c ∷ xs) e = elim (cases_Bool (c == 45)) [
  | inl h ↦ cc (rw h at e)
  | inr n ↦ let r = upstream-all xs (rw n at e) in rw n (omega arith)
]

hyphen-there : (xs : List ℕ) (n : ℕ) → n < length xs → (slice_index xs n == 45) ≡ true → list_any (λ b. b == 45) xs
    ≡ true
hyphen-there [] n lt h = absurd (omega arith)
hyphen-there (c ∷ xs) zero lt h = rw h refl
hyphen-there (c ∷ xs) (suc n) lt h = elim (cases_Bool (c == 45)) [
  | inl t ↦ rw t refl
  | inr o ↦ rw o (hyphen-there xs n (omega arith) h)
]

-- the last hyphen at place n
pub upstream-at : (xs : List ℕ) (n : ℕ) → n < length xs → (slice_index xs n == 45) ≡ true → list_any (λ b. b == 45)
    (drop (suc n) xs) ≡ false
    → upstream_len xs ≡ n
unfolding upstream_len
upstream-at [] n lt h none = absurd (omega arith)
upstream-at (c ∷ xs) zero lt h none = rw (h, none) refl
upstream-at (c ∷ xs) (suc n) lt h none =
    let r = upstream-at xs n (omega arith) h none in
    let some = hyphen-there xs n (omega arith) h in
    elim (cases_Bool (c == 45)) [
      | inl t ↦ rw (t, some) (omega arith)
      | inr o ↦ rw o (omega arith)
    ]
