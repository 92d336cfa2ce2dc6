-- Worked examples: what some new clauses watch, whether they are conflicts, their literals, and what replaces a watch;
-- and the clauses of four tracked variables.
use Rattle.std.specs.Prelude.{◌≡◌, ℕ, Bool, true, false, nat_eq, ◌==◌, if◌then◌else◌, List, [], ◌∷◌, Option, Some, None}
use Rattle.typed_ids.specs.declared.version_set_id.VersionSetId.{VersionSetId}
use Rattle.providers.specs.declared.requirement.Requirement.TheVariants.{Single}
use Rattle.decisions.specs.Literals.{Lit, Pos, Neg, Values}
use Rattle.clauses.specs.declared.clause.Clause.{Clause}
use Rattle.clauses.specs.declared.clause.Clause.TheVariants.{Requires, Constrains, ConstrainsExcluded}
use Rattle.clauses.specs.declared.clause.Clause.TheVariants.{ConstrainsParent, Lock, Learnt}
use Rattle.clauses.specs.Clauses.{StoredLiterals, literals_of, first_watches, is_conflict, next_unwatched}
use Rattle.at_most_once.specs.AtMostOne.{Adds}

-- a learnt clause, lists of every requirement, and a disjunction
abbrev pub shelf : StoredLiterals
shelf = record {
  learnt = (Pos 1 ∷ Neg 2 ∷ Pos 3 ∷ []) ∷ [];
  lists = λ requirement. (2 ∷ []) ∷ (3 ∷ []) ∷ [];
  disjunctions = (Neg 4 ∷ Pos 5 ∷ []) ∷ [];
}

-- the values of variables that are decided so
abbrev pub given : List (ℕ × Bool) → Values
given [] x = None
given (d ∷ ds) x = if d.0 == x then Some d.1 else given ds x

abbrev pub set : VersionSetId
set = record { 0 = 0 }

-- after these decisions the new clause watches this, and is this of a conflict
abbrev pub Is : List (ℕ × Bool) → Clause ℕ → Option (List Lit) → Bool → Type 0
Is decided clause watches conflict =
    (first_watches shelf (given decided) clause ≡ watches) × (is_conflict shelf (given decided) clause ≡ conflict)

-- variable 1 requires one of 2 and 3
abbrev pub required : Clause ℕ
required = Requires 1 None (Single set)

-- the same where 4 is true and 5 is false
abbrev pub conditional : Clause ℕ
conditional = Requires 1 (Some 0) (Single set)

pub record Examples : Type 0 where
  pub required_open : Is [] required (Some (Neg 1 ∷ Pos 2 ∷ [])) false
  pub required_next : Is ((2, false) ∷ []) required (Some (Neg 1 ∷ Pos 3 ∷ [])) false
  pub required_conflict : Is ((2, false) ∷ (3, false) ∷ []) required (Some (Neg 1 ∷ Pos 2 ∷ [])) true
  pub required_satisfied : Is ((2, false) ∷ (3, false) ∷ (1, false) ∷ []) required (Some (Neg 1 ∷ Pos 2 ∷ [])) false
  pub conditional_open : Is ((2, false) ∷ (3, false) ∷ []) conditional (Some (Neg 1 ∷ Neg 4 ∷ [])) false
  pub conditional_literals : literals_of shelf conditional ≡ Neg 1 ∷ Neg 4 ∷ Pos 5 ∷ Pos 2 ∷ Pos 3 ∷ []
  pub constrains_open : Is [] (Constrains 1 2 set) (Some (Neg 1 ∷ Neg 2 ∷ [])) false
  pub constrains_conflict : Is ((2, true) ∷ []) (Constrains 1 2 set) (Some (Neg 1 ∷ Neg 2 ∷ [])) true
  pub constrains_satisfied : Is ((2, true) ∷ (1, false) ∷ []) (Constrains 1 2 set) (Some (Neg 1 ∷ Neg 2 ∷ [])) false
  pub parent_conflict : Is ((2, true) ∷ []) (ConstrainsParent 1 2 set) (Some (Neg 1 ∷ Neg 2 ∷ [])) true
  pub parent_satisfied : Is ((2, true) ∷ (1, false) ∷ []) (ConstrainsParent 1 2 set) (Some (Neg 1 ∷ Neg 2 ∷ [])) false
  pub excluded_watches : Is [] (ConstrainsExcluded 1 2 set) (Some (Neg 1 ∷ Pos 2 ∷ [])) false
  pub lock_literals : literals_of {N = ℕ} shelf (Lock 1 2) ≡ Neg 2 ∷ Neg 0 ∷ []
  pub lock_watches : Is [] (Lock 1 2) (Some (Neg 0 ∷ Neg 2 ∷ [])) false
  pub learnt_watches : Is [] (Learnt 0) (Some (Pos 1 ∷ Pos 3 ∷ [])) false
  pub first_replaced : next_unwatched {N = ℕ} shelf (given ((1, false) ∷ [])) (Learnt 0)
      (Pos 1 ∷ Neg 2 ∷ []) 0 ≡ Some (Pos 3)
  pub second_replaced : next_unwatched {N = ℕ} shelf (given ((2, true) ∷ [])) (Learnt 0)
      (Pos 1 ∷ Neg 2 ∷ []) 1 ≡ Some (Pos 3)
  pub none_left : next_unwatched {N = ℕ} shelf (given ((2, true) ∷ (3, false) ∷ [])) (Learnt 0)
      (Pos 1 ∷ Neg 2 ∷ []) 1 ≡ None
  pub binary_has_none : next_unwatched {N = ℕ} shelf (given []) (Constrains 1 2 set) (Neg 1 ∷ Neg 2 ∷ []) 0 ≡ None
  -- 1 to 4 are tracked, one after another, with 11 as a helper from the second on, and 12 from the third on
  pub four_tracked : Adds nat_eq (record { variables = 1 ∷ 2 ∷ 3 ∷ 4 ∷ []; helpers = 11 ∷ 12 ∷ [] })
      ((1, 11, false) ∷ (2, 11, true) ∷ (1, 12, false) ∷ (2, 12, false) ∷
      (3, 11, false) ∷ (3, 12, true) ∷ (4, 11, true) ∷ (4, 12, true) ∷ [])
