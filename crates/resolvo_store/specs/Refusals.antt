-- The refusals that a caller can foresee: for each command the tests, in order, with what each answers.
use Rattle.std.specs.Prelude.{ℕ, ◌-◌, ◌^◌, ◌==◌, Bool, true, not, ◌&&◌, ◌||◌, nat_lt, nat_le, List}
use Rattle.std.specs.Prelude.{[], ◌∷◌, length, find, Option, None, Some, is_none, option_map}
use Rattle.std.specs.List.{list_all}
use Rattle.typed_ids.specs.Refusals.{are_ids_out}
use Rattle.typed_ids.specs.declared.error.StoreError.{StoreError}
use Rattle.typed_ids.specs.declared.error.StoreError.TheVariants.{IdSpace, UnknownId, LevelOutOfRange}
use Rattle.typed_ids.specs.declared.error.StoreError.TheVariants.{NotLoaded, NegatesParent, BadWatch, BadLearnt}
use Rattle.typed_ids.specs.declared.error.StoreError.TheVariants.{EmptyTrail, BadFraction, TooManyClauses}
use Rattle.providers.specs.Provider.{knows_requirement}
use Rattle.variables.specs.Variables.{lacks_variable, are_variables_out}
use Rattle.decisions.specs.Literals.{Lit, Neg, variable_of}
use Rattle.clauses.specs.Clauses.{watch_ends}
use Rattle.resolvo_store.specs.declared.helper_origin.HelperOrigin.{HelperOrigin}
use Rattle.resolvo_store.specs.declared.helper_origin.HelperOrigin.TheVariants as Helps
use Rattle.resolvo_store.specs.Command.{Command, Variable, Helper, Load, Requires, Root, Constrains}
use Rattle.resolvo_store.specs.Command.{ConstrainsExcluded, ConstrainsParent, Lock, Exclude, AnyOf, Learnt}
use Rattle.resolvo_store.specs.Command.{Assign, UndoLast, UndoUntil, Unpropagated, Rewatch, Watchers}
use Rattle.resolvo_store.specs.Command.{Saturate, Decide, Disjunction, AtMostOnce, Bump, Decay, Standard}
use Rattle.watch_map.specs.Watching.{is_literal_in}
use Rattle.resolvo_store.specs.Store.{Store, lists_of, condition_of, clause_literals, watched_by}
use Rattle.resolvo_store.specs.Tracking.{is_helper_among}

-- no literal, or two or more of which the first is the last
abbrev pub is_bad_learnt : List Lit → Bool
is_bad_learnt ls = is_none (watch_ends ls) && not (length ls == 1)

abbrev pub is_level : ℕ → Bool
is_level level = nat_lt 0 level && nat_lt level (2 ^ 31)

-- the fraction isn't defined, or is more than 1
abbrev pub is_bad_fraction : ℕ → ℕ → Bool
is_bad_fraction numerator denominator = (denominator == 0) || nat_lt denominator numerator

module _ {N S : Type 0} where
  abbrev pub knows_variable : Store N S → ℕ → Bool
  knows_variable st v = nat_lt v (length st.origins)

  abbrev pub knows_literal : Store N S → Lit → Bool
  knows_literal st l = knows_variable st (variable_of l)

  abbrev pub knows_clause : Store N S → ℕ → Bool
  knows_clause st c = nat_lt c (length st.clauses)

  -- what a helper variable is to stand for is known
  abbrev pub knows_helper : Store N S → HelperOrigin N → Bool
  knows_helper st (Helps.AtLeastOne n) = st.provider.universe.knows_name n
  knows_helper st (Helps.ConstrainsViolation v) = st.provider.universe.knows_set v
  knows_helper st (Helps.RequiresGate r) = knows_requirement st.provider.universe r

  -- no clause id is left
  abbrev pub are_clauses_out : Store N S → Bool
  are_clauses_out st = nat_le (2 ^ 32 - 1) (length st.clauses)

  -- or none for the literals of a learnt clause
  abbrev pub is_learnt_out : Store N S → Bool
  is_learnt_out st = are_clauses_out st || nat_le (2 ^ 32) (length st.learnt)

  -- no id is left for a disjunction
  abbrev pub are_disjunctions_out : Store N S → Bool
  are_disjunctions_out st = are_ids_out (2 ^ 32 - 1) (length st.disjunctions)

  abbrev pub knows_pair : Store N S → ℕ → ℕ → Bool
  knows_pair st a b = knows_variable st a && knows_variable st b

  -- the disjunction, if there is one, is kept
  abbrev pub knows_disjunction : Store N S → Option ℕ → Bool
  knows_disjunction st None = true
  knows_disjunction st (Some d) = nat_lt d (length st.disjunctions)

  -- the parent's negative literal is among those of the disjunction
  abbrev pub negates_parent : Store N S → ℕ → Option ℕ → Bool
  negates_parent st parent disjunction = is_literal_in (Neg parent) (condition_of st disjunction)

  -- the clause watches the one literal, doesn't watch the other, and has it
  abbrev pub may_rewatch : Store N S → ℕ → Lit → Lit → Bool
  may_rewatch st c from to =
      is_literal_in from (watched_by st c) &&
      (not (is_literal_in to (watched_by st c)) && is_literal_in to (clause_literals st c))

  -- of a command that adds a clause, by whether all that it names is known
  abbrev pub clause_refusals : Store N S → Bool → List (Bool × StoreError)
  clause_refusals st known = (not known, UnknownId) ∷ (are_clauses_out st, IdSpace) ∷ []

  -- the refusals of a command, each with whether it applies
  abbrev pub refusals : Store N S → Command N S → List (Bool × StoreError)
  refusals st (Variable s) =
      (not (st.provider.universe.knows_solvable s), UnknownId) ∷
      (lacks_variable st.provider.same_solvable st.provider.is_large_solvable st.origins s, IdSpace) ∷ []
  refusals st (Helper origin) =
      (not (knows_helper st origin), UnknownId) ∷ (are_variables_out (length st.origins), IdSpace) ∷ []
  refusals st (Load r) = (not (knows_requirement st.provider.universe r), UnknownId) ∷ []
  refusals st (Requires parent r disjunction) = (
    not (knows_variable st parent && (knows_requirement st.provider.universe r && knows_disjunction st disjunction)),
    UnknownId,
  ) ∷
      (is_none (lists_of st r), NotLoaded) ∷
      (negates_parent st parent disjunction, NegatesParent) ∷
      (nat_le (2 ^ 32 - 1) (length st.requires), TooManyClauses) ∷
      (are_clauses_out st, IdSpace) ∷ []
  refusals st Root = clause_refusals st true
  refusals st (Constrains parent forbidden v) =
      clause_refusals st (knows_pair st parent forbidden && st.provider.universe.knows_set v)
  refusals st (ConstrainsExcluded candidate aux v) =
      clause_refusals st (knows_pair st candidate aux && st.provider.universe.knows_set v)
  refusals st (ConstrainsParent parent aux v) =
      clause_refusals st (knows_pair st parent aux && st.provider.universe.knows_set v)
  refusals st (Lock locked other) = clause_refusals st (knows_pair st locked other)
  refusals st (Exclude v reason) = clause_refusals st (knows_variable st v && st.provider.universe.knows_string reason)
  refusals st (AnyOf selected other) = clause_refusals st (knows_pair st selected other)
  refusals st (Learnt ls) =
      (not (list_all (knows_literal st) ls), UnknownId) ∷
      (is_bad_learnt ls, BadLearnt) ∷
      (is_learnt_out st, IdSpace) ∷ []
  refusals st (Assign v value clause level) =
      (not (knows_variable st v && knows_clause st clause), UnknownId) ∷
      (not (is_level level), LevelOutOfRange) ∷ []
  refusals st UndoLast = (length st.trail == 0, EmptyTrail) ∷ []
  refusals st (UndoUntil level) = []
  refusals st Unpropagated = []
  refusals st (Rewatch c from to) =
      (not (knows_clause st c && (knows_literal st from && knows_literal st to)), UnknownId) ∷
      (not (may_rewatch st c from to), BadWatch) ∷ []
  refusals st (Watchers l) = (not (knows_literal st l), UnknownId) ∷ []
  refusals st (Saturate level) = (not (is_level level), LevelOutOfRange) ∷ []
  refusals st Decide = []
  refusals st (Disjunction ls condition) =
      (not (list_all (knows_literal st) ls && st.provider.universe.knows_condition condition), UnknownId) ∷
      (are_disjunctions_out st, IdSpace) ∷ []
  refusals st (AtMostOnce name v) = (
    not (st.provider.universe.knows_name name && (knows_variable st v && not (is_helper_among st.origins v))),
    UnknownId,
  ) ∷ []
  refusals st (Bump name amount) =
      (not (st.provider.universe.knows_name name), UnknownId) ∷ (st.provider.is_large_name name, IdSpace) ∷ []
  refusals st (Decay numerator denominator) = (is_bad_fraction numerator denominator, BadFraction) ∷ []
  refusals st (Standard standard) = []

  -- the first that applies
  abbrev pub first_refusal : Store N S → Command N S → Option StoreError
  first_refusal st c = option_map (λ (r : Bool × StoreError). r.1)
      (find (λ (r : Bool × StoreError). r.0) (refusals st c))
