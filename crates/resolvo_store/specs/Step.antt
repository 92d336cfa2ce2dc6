-- One step of the abstract store, and a run.
use Rattle.std.specs.Prelude.{◌≡◌, ℕ, ◌^◌, nat_eq, ◌==◌, Bool, true, false, not, ◌&&◌, ◌||◌}
use Rattle.std.specs.Prelude.{nat_le, List, [], ◌∷◌, length, is_none, is_some, MatchOption, IsTrue}
use Rattle.typed_ids.specs.declared.error.StoreError.{StoreError}
use Rattle.typed_ids.specs.declared.error.StoreError.TheVariants.{OutOfMemory, IdSpace, Cancelled}
use Rattle.std.specs.List.{list_any}
use Rattle.providers.specs.declared.requirement.Requirement.{Requirement}
use Rattle.providers.specs.Provider.{sets_of}
use Rattle.decisions.specs.Literals.{undecided}
use Rattle.variables.specs.Variables.{variable_of_solvable, lacks_variables}
use Rattle.at_most_once.specs.AtMostOne.{is_tracked}
use Rattle.resolvo_store.specs.Command.{Command, Variable, Load, AtMostOnce, Decay, Standard, Assign}
use Rattle.resolvo_store.specs.Command.{UndoLast, UndoUntil, Unpropagated, Saturate, Decide, Reply, Refused}
use Rattle.resolvo_store.specs.Store.{Store, values, lists_of, all_candidates}
use Rattle.resolvo_store.specs.Refusals.{first_refusal}
use Rattle.resolvo_store.specs.Tracking.{lacks_more}
use Rattle.resolvo_store.specs.Saturating.{Saturates}
use Rattle.resolvo_store.specs.Outcome.{outcome, falsified_clause, helper_for, tracking}

module _ {N S : Type 0} where
  -- an accepted Load named the package: a loaded requirement has a version set of it
  abbrev pub is_named : Store N S → N → Bool
  is_named st name = list_any (λ (e : Requirement × List (List ℕ)).
      list_any (λ v. st.provider.same_name name (st.provider.universe.set_name v))
      (sets_of st.provider.universe e.0)) st.loaded

  -- a Load names a package that no accepted Load named
  abbrev pub names_new_package : Store N S → Command N S → Bool
  names_new_package st (Load r) = list_any (λ v. not (is_named st (st.provider.universe.set_name v)))
      (sets_of st.provider.universe r)
  names_new_package st _ = false

  -- a Load needs more ids than there are: for its packages, for its rows, or for the variables of its candidates; or an
  -- AtMostOnce does: for its name's variables, for its helper, or for its clauses
  abbrev pub lacks_ids : Store N S → Command N S → Bool
  lacks_ids st (Load r) =
      is_none (lists_of st r) &&
      (list_any (λ v. st.provider.is_large_name (st.provider.universe.set_name v)) (sets_of st.provider.universe r) ||
      (nat_le (2 ^ 40) (length (all_candidates st r)) ||
      lacks_variables st.provider.same_solvable st.provider.is_large_solvable st.origins (all_candidates st r)))
  lacks_ids st (AtMostOnce name v) =
      not (is_tracked nat_eq (st.trackers name) v) &&
      (st.provider.is_large_name name || lacks_more st.origins (helper_for st name v) (length st.clauses)
      (length (tracking st name v)))
  lacks_ids st _ = false

  -- more packages may have been asked for than answers have ids, or tracked than trackers have: that takes more than
  -- 2^32 names, and one more package
  abbrev pub may_use_up_answers : Store N S → Command N S → Bool
  may_use_up_answers st (Load r) = st.provider.are_names_many && names_new_package st (Load r)
  may_use_up_answers st (AtMostOnce name v) = st.provider.are_names_many && (length (st.trackers name).variables == 0)
  may_use_up_answers st _ = false

  -- the command is answered without taking memory
  abbrev pub takes_no_memory : Store N S → Command N S → Bool
  takes_no_memory st (Variable s) = is_some (variable_of_solvable st.provider.same_solvable st.origins s)
  takes_no_memory st (Assign v value clause level) = not (undecided (values st v))
  takes_no_memory st UndoLast = true
  takes_no_memory st (UndoUntil level) = true
  takes_no_memory st Unpropagated = true
  takes_no_memory st (AtMostOnce name v) = is_tracked nat_eq (st.trackers name) v
  takes_no_memory st (Decay numerator denominator) = true
  takes_no_memory st (Standard standard) = true
  takes_no_memory st Decide = is_some (falsified_clause st)
  takes_no_memory st _ = false

  -- a refusal that may come where no foreseeable one applies
  abbrev pub may_be_refused : Store N S → Command N S → StoreError → Bool
  may_be_refused st c OutOfMemory = not (takes_no_memory st c)
  may_be_refused st c IdSpace = lacks_ids st c || may_use_up_answers st c
  may_be_refused st c Cancelled = names_new_package st c
  may_be_refused st c _ = false

  -- the command is given its reply and takes effect, or is refused and has none
  abbrev pub HasOutcome : Store N S → Command N S → Reply → Store N S → Type 0
  HasOutcome old c (Refused e) new = IsTrue (may_be_refused old c e) × (new ≡ old)
  HasOutcome old c reply new =
      (lacks_ids old c ≡ false) × (reply ≡ (outcome old c).reply) × (new ≡ (outcome old c).store)

  -- a Saturate may have more than one outcome, and each other command has its own
  abbrev pub IsAnswered : Store N S → Command N S → Reply → Store N S → Type 0
  IsAnswered old (Saturate level) reply new = Saturates level old reply new
  IsAnswered old c reply new = HasOutcome old c reply new

  -- from the old store this command may be given this reply and lead to the new store
  abbrev pub Step : Store N S → Command N S → Reply → Store N S → Type 0
  Step old c reply new =
      MatchOption (first_refusal old c) (IsAnswered old c reply new) (λ e. (reply ≡ Refused e) × (new ≡ old))

  -- the commands may be given these replies in turn, one each
  abbrev pub Run : Store N S → List (Command N S) → List Reply → Store N S → Type 0
  Run old [] [] new = new ≡ old
  Run old (c ∷ cs) (reply ∷ replies) new = (mid : Store N S) × Step old c reply mid × Run mid cs replies new
  Run old [] (reply ∷ replies) new = ⊥
  Run old (c ∷ cs) [] new = ⊥
