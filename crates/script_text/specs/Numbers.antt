-- The numbers of a script.
use Rattle.std.specs.Prelude.{ℕ, ◌+◌, ◌-◌, ◌*◌, ◌^◌, Bool, ◌&&◌, nat_le, nat_lt, List, []}
use Rattle.std.specs.Prelude.{◌∷◌, length, Option, None, Some, option_and_then, if◌then◌else◌}

abbrev pub is_digit : ℕ → Bool
is_digit b = nat_le 48 b && nat_le b 57

-- the value with one more digit after it, where it is below 2^64
abbrev pub with_digit : ℕ → ℕ → Option ℕ
with_digit n digit = if is_digit digit && nat_lt (n * 10 + (digit - 48)) (2 ^ 64)
    then Some (n * 10 + (digit - 48)) else None

-- the value of these digits after a number. Digits never make it less, so that a value below 2^64 was so at each digit
abbrev pub value_from : ℕ → List ℕ → Option ℕ
value_from n [] = Some n
value_from n (digit ∷ digits) = option_and_then (λ m. value_from m digits) (with_digit n digit)

-- the number that a word writes: one to twenty decimal digits, and a value below 2^64
abbrev pub number_of : List ℕ → Option ℕ
number_of [] = None
number_of (digit ∷ digits) = if nat_lt 20 (length (digit ∷ digits)) then None else value_from 0 (digit ∷ digits)

-- a number below a limit
abbrev pub below : ℕ → Option ℕ → Option ℕ
below limit None = None
below limit (Some n) = if nat_lt n limit then Some n else None
