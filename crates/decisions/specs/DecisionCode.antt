-- A variable's value and the level at which it got it, or neither, as one number.
use Rattle.std.specs.Prelude.{◌≡◌, ◌≢◌, ℕ, ◌+◌, ◌-◌, ◌*◌, ◌/◌, ◌%◌, ◌==◌, if◌then◌else◌, Bool, true, false, refl}
use Rattle.std.specs.Prelude.{Option, Some, None}
use Rattle.std.proofs.Common.{arith}
use Rattle.std.proofs.lemmas.Bool.{eqb-true, eqb-false}

-- 0 is neither; else it is twice the level and two, and one more if the value is true
abbrev pub code_of : Option (Bool × ℕ) → ℕ
code_of None = 0
code_of (Some d) = 2 * (d.1 + 1) + (if d.0 then 1 else 0)

-- what a number says
abbrev pub decision_at : ℕ → Option (Bool × ℕ)
decision_at code = if code == 0 then None else Some (code % 2 == 1, code / 2 - 1)

-- what a number says has that number, by whether it is 0 and whether it is odd
code_by_tests : (code : ℕ) (none odd : Bool) → (code == 0) ≡ none → (code % 2 == 1) ≡ odd → code ≢ 1
    → code_of (if none then None else Some (odd, code / 2 - 1)) ≡ code
code_by_tests code true odd z o more = omega (arith, eqb-true _ _ z)
code_by_tests code false true z o more = omega (arith, eqb-false _ _ z, eqb-true _ _ o, more)
code_by_tests code false false z o more = omega (arith, eqb-false _ _ z, eqb-false _ _ o)

-- a number but 1 comes back
pub code_of-decision_at : (code : ℕ) → code ≢ 1 → code_of (decision_at code) ≡ code
code_of-decision_at code more = code_by_tests code (code == 0) (code % 2 == 1) refl refl more
