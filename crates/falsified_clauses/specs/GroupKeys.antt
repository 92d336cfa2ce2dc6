-- The groups of literals that clauses are made of, by what they are of.
use Rattle.std.specs.Prelude.{◌≡◌, ◌⊎◌, ℕ, ◌<◌, Bool, false, ◌==◌, List, [], ◌∷◌, length, map}
use Rattle.std.specs.Prelude.{Option, Some, None, IsSome, IfSome, option_map}
use Rattle.std.specs.List.{All, Contains, position_or_len}
use Rattle.std.specs.Map.{lookup}
use Rattle.providers.specs.Requirement.{same_requirement}
use Rattle.decisions.specs.Literals.{Lit, Neg}
use Rattle.clauses.specs.Clauses.{condition_literals}
use Rattle.clauses.specs.Stored.{stored_in}
use Rattle.clauses.specs.declared.disjunction.Disjunction.{Disjunction}
use Rattle.clause_counters.specs.GroupedClauses.{row_literals}
use Rattle.falsified_clauses.specs.declared.demand.Demand.{Demand}
use Rattle.falsified_clauses.specs.declared.group_key.GroupKey.{GroupKey}
use Rattle.falsified_clauses.specs.declared.group_key.GroupKey.TheVariants.{Parent, Condition, Rows}
use Rattle.falsified_clauses.specs.Clauses.{Lists, rows}

module _ {A : Type 0} (lists : Lists A) (disjunctions : List (Disjunction A)) where
  -- the literals of a key's group
  abbrev pub literals_of : GroupKey → List Lit
  literals_of (Parent parent) = Neg parent ∷ []
  literals_of (Condition d) = condition_literals (stored_in [] [] disjunctions) (Some d)
  literals_of (Rows requirement) = row_literals (rows lists requirement)

  -- what the key names is there
  abbrev pub IsKnown : GroupKey → Type 0
  IsKnown (Parent parent) = Unit {0}
  IsKnown (Condition d) = d < length disjunctions
  IsKnown (Rows requirement) = IsSome (lookup (same_requirement requirement) lists)

-- whether two keys are one
abbrev pub same_key : GroupKey → GroupKey → Bool
same_key (Parent v) (Parent w) = v == w
same_key (Condition d) (Condition e) = d == e
same_key (Rows r) (Rows q) = same_requirement r q
same_key _ _ = false

-- the number of a key's group: its place among the keys, or behind the last
abbrev pub number_in : List GroupKey → GroupKey → ℕ
number_in keys key = position_or_len (same_key key) keys

-- the keys that have numbers keep them
abbrev pub KeepsNumbers : List GroupKey → List GroupKey → Type 0
KeepsNumbers old new = (key : GroupKey) → number_in old key < length old
    → (number_in new key ≡ number_in old key) × (number_in new key < length new)

-- the number of the group of a condition, if there is one
abbrev pub condition_number : List GroupKey → Option ℕ → Option ℕ
condition_number keys condition = option_map (λ d. number_in keys (Condition d)) condition

-- and there is that group
abbrev pub HasConditionGroup : List GroupKey → Option ℕ → Type 0
HasConditionGroup keys condition = IfSome condition (λ d. number_in keys (Condition d) < length keys)

-- the key is that of the condition, if there is one
abbrev pub IsConditionKey : Option ℕ → GroupKey → Type 0
IsConditionKey condition key = (d : ℕ) × (condition ≡ Some d) × (key ≡ Condition d)

-- each key was there, or is one that may come
abbrev pub AddsOnly : (GroupKey → Type 0) → List GroupKey → List GroupKey → Type 0
AddsOnly MayCome old new = All (λ key. Contains old key ⊎ MayCome key) new

-- the numbers of a clause's groups, of which that of the condition may be missing
abbrev pub numbers : ℕ → Option ℕ → ℕ → List ℕ
numbers parent None rows = parent ∷ rows ∷ []
numbers parent (Some condition) rows = parent ∷ condition ∷ rows ∷ []

-- the keys of a clause's groups: its parent, its condition if it has one, its rows
abbrev pub keys_under : Option ℕ → Demand → List GroupKey
keys_under None clause = Parent clause.parent ∷ Rows clause.requirement ∷ []
keys_under (Some d) clause = Parent clause.parent ∷ Condition d ∷ Rows clause.requirement ∷ []

abbrev pub keys_of : Demand → List GroupKey
keys_of clause = keys_under clause.condition clause

-- the numbers of its groups
abbrev pub numbers_in : List GroupKey → Demand → List ℕ
numbers_in keys clause = map (number_in keys) (keys_of clause)

-- each of them is the number of a key
abbrev pub HasGroups : List GroupKey → Demand → Type 0
HasGroups keys clause = All (λ number. number < length keys) (numbers_in keys clause)
