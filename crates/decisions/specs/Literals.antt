-- Literals, and their truth under the values of the variables. A variable is its index.
use Rattle.std.specs.Prelude.{ℕ, Bool, true, false, not, Option, Some, None, option_map}

-- a literal: a variable, or its negation
pub data Lit : Type 0 where
  Pos : (v : ℕ) → Lit
  Neg : (v : ℕ) → Lit

-- the literal's variable
abbrev pub variable_of : Lit → ℕ
variable_of (Pos v) = v
variable_of (Neg v) = v

-- the same variable with the other sign
abbrev pub negation : Lit → Lit
negation (Pos v) = Neg v
negation (Neg v) = Pos v

-- the value of its variable that makes the literal true
abbrev pub satisfying_value : Lit → Bool
satisfying_value (Pos v) = true
satisfying_value (Neg v) = false

-- what is known of each variable: true, false, or undecided
abbrev pub Values : Type 0
Values = ℕ → Option Bool

-- what is known of a literal
abbrev pub truth : Values → Lit → Option Bool
truth val (Pos v) = val v
truth val (Neg v) = option_map not (val v)

abbrev pub known_true : Option Bool → Bool
known_true (Some b) = b
known_true None = false

abbrev pub known_false : Option Bool → Bool
known_false (Some b) = not b
known_false None = false

abbrev pub undecided : Option Bool → Bool
undecided (Some b) = false
undecided None = true

abbrev pub is_false_literal : Values → Lit → Bool
is_false_literal val l = known_false (truth val l)
