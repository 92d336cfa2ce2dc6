-- What the clauses of a name say of the variables that are tracked under it. N are the names, S the solvables.
use Rattle.std.specs.Prelude.{ℕ, Bool, true, false, not, nat_eq, List, filter}
use Rattle.std.specs.List.{list_any}
use Rattle.decisions.specs.Literals.{Lit, Pos, Neg}
use Rattle.clauses.specs.declared.clause.Clause.{Clause}
use Rattle.clauses.specs.declared.clause.Clause.TheVariants.{ForbidMultipleInstances}
use Rattle.clauses.specs.Clauses.{literals_of}
use Rattle.at_most_once.specs.AtMostOne.{SaysAtMostOne}
use Rattle.resolvo_store.specs.Store.{Store, stored_of}

-- a literal is true under truth values of the variables
abbrev pub is_true_literal : (ℕ → Bool) → Lit → Bool
is_true_literal a (Pos v) = a v
is_true_literal a (Neg v) = not (a v)

-- the clause forbids several variables of a name that passes the test
abbrev pub is_forbidding : {N : Type 0} → (N → Bool) → Clause N → Bool
is_forbidding named (ForbidMultipleInstances x l n) = named n
is_forbidding named _ = false

module _ {N S : Type 0} (st : Store N S) where
  -- the clause is satisfied: one of its literals is true
  abbrev pub is_satisfied : (ℕ → Bool) → Clause N → Bool
  is_satisfied a c = list_any (is_true_literal a) (literals_of (stored_of st) c)

  -- the clauses that forbid several variables of the name
  abbrev pub clauses_of_name : N → List (Clause N)
  clauses_of_name name = filter (is_forbidding (st.provider.same_name name)) st.clauses

  -- they say that of the variables that are tracked under the name at most one is true
  abbrev pub ForbidsTwo : N → Type 0
  ForbidsTwo name = SaysAtMostOne nat_eq is_satisfied (st.trackers name) (clauses_of_name name)
