-- The index of a literal: twice that of its variable, plus 1 if it is negated. So the two literals of a variable are
-- side by side.
use Rattle.std.specs.Prelude.{◌≡◌, ℕ, ◌+◌, ◌-◌, ◌≤◌, ◌*◌, ◌/◌, ◌%◌, Bool, true, false, ◌==◌, if◌then◌else◌, refl}
use Rattle.std.proofs.Common.{arith, ap}
use Rattle.std.proofs.lemmas.Bool.{eqb-true, eqb-false}
use Rattle.decisions.specs.Literals.{Lit, Pos, Neg}

-- the index of a literal
abbrev pub literal_index : Lit → ℕ
literal_index (Pos v) = 2 * v
literal_index (Neg v) = 2 * v + 1

-- the literal with this index
abbrev pub literal_at : ℕ → Lit
literal_at index = if index % 2 == 0 then Pos (index / 2) else Neg (index / 2)

-- the literal at an index, by whether it is even, has that index
index_by_parity : (index : ℕ) (even : Bool) → (index % 2 == 0) ≡ even
    → literal_index (if even then Pos (index / 2) else Neg (index / 2)) ≡ index
index_by_parity index true e = omega (arith, eqb-true _ _ e)
index_by_parity index false e = omega (arith, eqb-false _ _ e)

-- the literal at an index has that index
pub literal_index-literal_at : (index : ℕ) → literal_index (literal_at index) ≡ index
literal_index-literal_at index = index_by_parity index (index % 2 == 0) refl

-- so a raw number, the index plus 1, comes back
pub literal_index-literal_at_raw : (raw : ℕ) → 1 ≤ raw → literal_index (literal_at (raw - 1)) + 1 ≡ raw
literal_index-literal_at_raw raw low = omega (arith, literal_index-literal_at (raw - 1))

-- two literals with one index are one literal
pub literal_index-injective : (a b : Lit) → literal_index a ≡ literal_index b → a ≡ b
literal_index-injective (Pos v) (Pos w) e = ap Pos (omega arith)
literal_index-injective (Pos v) (Neg w) e = absurd (omega arith)
literal_index-injective (Neg v) (Pos w) e = absurd (omega arith)
literal_index-injective (Neg v) (Neg w) e = ap Neg (omega arith)
