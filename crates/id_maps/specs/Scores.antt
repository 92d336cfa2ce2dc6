-- A score for each name. N are the names.
use Rattle.std.specs.Prelude.{ℕ, Bool, ◌+◌, ◌-◌, ◌*◌, ◌/◌, ◌^◌, if◌then◌else◌, min}

-- the map that has the scores, of the type M, and the largest of them
pub record ScoreState (M : Type 0) : Type 0 where
  pub map : M
  pub largest : ℕ

-- a name's score raised by an amount, to 2^64 - 1 at most
abbrev pub bumped : {N : Type 0} → (N → N → Bool) → N → ℕ → (N → ℕ) → N → ℕ
bumped same name amount scores other = if same other name then min (scores other + amount) (2 ^ 64 - 1)
    else scores other

-- each score times a fraction, rounded down
abbrev pub decayed : {N : Type 0} → ℕ → ℕ → (N → ℕ) → N → ℕ
decayed numerator denominator scores name = scores name * numerator / denominator
