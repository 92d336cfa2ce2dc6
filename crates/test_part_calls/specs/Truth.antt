-- What a requires clause says under truth values of all variables.
use Rattle.std.specs.Prelude.{◌≡◌, ℕ, Bool, not, ◌||◌, List, ⊤}
use Rattle.std.specs.List.{list_any}
use Rattle.decisions.specs.Literals.{Lit, Pos, Neg}
use Rattle.clauses.specs.declared.clause.Clause.{Clause}
use Rattle.clauses.specs.declared.clause.Clause.TheVariants.{Requires}
use Rattle.clauses.specs.Clauses.{StoredLiterals, condition_literals}

-- a literal is true
abbrev pub is_true : (ℕ → Bool) → Lit → Bool
is_true values (Pos v) = values v
is_true values (Neg v) = not (values v)

-- of these literals of a clause that requires one is true exactly if its parent is false, a literal of its condition is
-- true, or a candidate is true
abbrev pub RequiresSays : {N : Type 0} → StoredLiterals → Clause N → List Lit → Type 0
RequiresSays k (Requires parent d r) literals =
    (values : ℕ → Bool) → list_any (is_true values) literals
    ≡ (not (values parent) ||
    (list_any (is_true values) (condition_literals k d) || list_any (list_any values) (k.lists r)))
RequiresSays k _ literals = ⊤
