-- Which of the clauses that pass a test comes first.
use Rattle.std.specs.Prelude.{◌≡◌, ℕ, ◌<◌, Bool, true, false, ◌==◌, nat_lt, ◌||◌, ◌&&◌, Option, Some, None}

module _ (first_of_parent : ℕ → ℕ) where
  -- clause c comes before clause d: so does the first clause of its parent, or they have one parent, and c's own number
  -- is less
  abbrev pub is_before : ℕ → ℕ → Bool
  is_before c d = nat_lt (first_of_parent c) (first_of_parent d) ||
      (first_of_parent c == first_of_parent d && nat_lt c d)

  -- of the clauses below a number: the answer passes, and none that passes comes before it; or none passes
  abbrev pub IsFirstOf : ℕ → (ℕ → Bool) → Option ℕ → Type 0
  IsFirstOf count passes None = (c : ℕ) → c < count → passes c ≡ false
  IsFirstOf count passes (Some first) = (first < count) × (passes first ≡ true)
      × ((c : ℕ) → c < count → passes c ≡ true → is_before c first ≡ false)
