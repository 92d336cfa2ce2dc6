-- The next clause of a list, or none, as one number.
use Rattle.std.specs.Prelude.{◌≡◌, ℕ, ◌+◌, ◌-◌, ◌==◌, if◌then◌else◌, Bool, true, false, refl, Option, Some, None}
use Rattle.std.proofs.Common.{arith}
use Rattle.std.proofs.lemmas.Bool.{eqb-true, eqb-false}

-- 0 is none, else it is the clause and one
abbrev pub code_of_next : Option ℕ → ℕ
code_of_next None = 0
code_of_next (Some clause) = clause + 1

-- what a number says
abbrev pub next_of_code : ℕ → Option ℕ
next_of_code code = if code == 0 then None else Some (code - 1)

-- what a number says has that number, by whether it is 0
code_by_test : (code : ℕ) (none : Bool) → (code == 0) ≡ none
    → code_of_next (if none then None else Some (code - 1)) ≡ code
code_by_test code true z = omega (arith, eqb-true _ _ z)
code_by_test code false z = omega (arith, eqb-false _ _ z)

-- a number comes back
pub code_comes_back : (code : ℕ) → code_of_next (next_of_code code) ≡ code
code_comes_back code = code_by_test code (code == 0) refl
