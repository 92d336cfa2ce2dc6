-- Truth values of all variables that satisfy a store's clauses. N are the names, S the solvables.
use Rattle.std.specs.Prelude.{◌≡◌, ⊤, ℕ, Bool, true, false, Some, All}
use Rattle.std.specs.List.{list_all}
use Rattle.decisions.specs.Literals.{Lit, Pos, Neg, Values, known_true}
use Rattle.clauses.specs.declared.clause.Clause.{Clause}
use Rattle.clauses.specs.declared.clause.Clause.TheVariants.{Requires, Learnt}
use Rattle.resolvo_store.specs.Store.{Store, values, condition_of}
use Rattle.resolvo_store.specs.ForbidsTwo.{is_satisfied}

-- the variables whose values are known have these
abbrev pub Agrees : Values → (ℕ → Bool) → Type 0
Agrees now a = (v : ℕ) (value : Bool) → now v ≡ Some value → a v ≡ value

module _ {N S : Type 0} (st : Store N S) where
  -- each clause is satisfied
  abbrev pub IsModel : (ℕ → Bool) → Type 0
  IsModel a = All (λ c. is_satisfied st a c ≡ true) st.clauses

  -- so it is, by what the trail says
  pub record IsModelNow (a : ℕ → Bool) : Type 0 where
    pub satisfies : IsModel a
    pub agrees : Agrees (values st) a

-- what is known to be true is true, and all else false
abbrev pub true_alone : Values → ℕ → Bool
true_alone now v = known_true (now v)

abbrev pub is_negation : Lit → Bool
is_negation (Pos v) = false
is_negation (Neg v) = true

module _ {N S : Type 0} (st : Store N S) where
  -- what isn't known to be true may be false, for all that a settled clause says: the literals of its condition are
  -- negations, or it was learnt and is satisfied so
  abbrev pub MayLeaveFalse : Clause N → Type 0
  MayLeaveFalse (Requires parent d r) = list_all is_negation (condition_of st d) ≡ true
  MayLeaveFalse (Learnt id) = is_satisfied st (true_alone (values st)) (Learnt id) ≡ true
  MayLeaveFalse _ = ⊤
