-- A map of decisions: a list that has at each variable's index its value and level, or neither. Past its end nothing
-- is decided.
use Rattle.std.specs.Prelude.{ℕ, Bool, List, slice_index_or, Option, None, option_map}
use Rattle.std.specs.Option.{option_map_or}
use Rattle.decisions.specs.Literals.{Values}

abbrev pub decision_in : List (Option (Bool × ℕ)) → ℕ → Option (Bool × ℕ)
decision_in decisions variable = slice_index_or decisions variable None

-- the values that the decisions give
abbrev pub values_in : List (Option (Bool × ℕ)) → Values
values_in decisions variable = option_map (λ d. d.0) (decision_in decisions variable)

-- the level of each decided variable, 0 for the others
abbrev pub level_in : List (Option (Bool × ℕ)) → ℕ → ℕ
level_in decisions variable = option_map_or (λ d. d.1) (decision_in decisions variable) 0
