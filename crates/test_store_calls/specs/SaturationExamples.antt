-- Worked examples of what a Saturate may do: which entries clauses imply, and what is so then. In the commands an
-- implied entry stands as the assignment that it is.
use Rattle.std.specs.Prelude.{ℕ, Bool, true, false, List, [], ◌∷◌, ◌++◌, None}
use Rattle.resolvo_ids.specs.Types.StoreError.TheVariants.{LevelOutOfRange}
use Rattle.resolvo_clauses.specs.Implication.{AreImplied}
use Rattle.resolvo_clauses.specs.Trail.{Entry}
use Rattle.resolvo_store.specs.Command.{Command, Load, Requires, Root, AtMostOnce, Assign, UndoUntil}
use Rattle.resolvo_store.specs.Command.{UndoLast, Unpropagated, Saturate, Decide, Next, LoadedAs, ClauseIs}
use Rattle.resolvo_store.specs.Command.{TrackedAs, Assigned, Undone, NoDecision, Falsified, Refused}
use Rattle.resolvo_store.specs.Saturating.{HasSettled, HasConflict}
use Rattle.resolvo_store.specs.Store.{Store, new_store, clause_literals}
use Rattle.test_store_calls.specs.Play.{store_after}
use Rattle.test_store_calls.specs.Script.{Packages, provider_of}
use Rattle.test_store_calls.specs.ExampleWords.{Gives, solvable, range, single, assigns}
use Rattle.test_store_calls.specs.ExampleWords.{decides, hands, takes_back, two_versions}

abbrev pub entry : ℕ → Bool → ℕ → ℕ → Entry
entry variable value clause level = record { decision = assigns variable value clause; level = level }

-- over these packages, after these commands
abbrev pub state_after : Packages → List (Command ℕ ℕ) → Store ℕ ℕ
state_after packages commands = store_after (new_store (provider_of packages)) commands

-- clauses imply these entries at the level, one after another
abbrev pub Implies : Packages → List (Command ℕ ℕ) → ℕ → List Entry → Type 0
Implies packages commands level added = let st = state_after packages commands in
    AreImplied (clause_literals st) level st.trail added

-- all clauses are settled
abbrev pub EndsSettled : Packages → List (Command ℕ ℕ) → Type 0
EndsSettled packages commands = HasSettled (state_after packages commands)

-- this clause is false
abbrev pub EndsInConflict : Packages → List (Command ℕ ℕ) → ℕ → Type 0
EndsInConflict packages commands clause = HasConflict (state_after packages commands) clause

-- ---- the root, a requirement of two candidates, and at most one of them: the root's clause implies the root

abbrev pub encoded : List (Command ℕ ℕ)
encoded = Root ∷ Load (single 0) ∷ Requires 0 (single 0) None ∷ AtMostOnce 0 1 ∷ AtMostOnce 0 2 ∷ []

abbrev pub with_root : List (Command ℕ ℕ)
with_root = encoded ++ Assign 0 true 0 1 ∷ []

abbrev pub RootImplied : Type 0
RootImplied = Implies two_versions encoded 1 (entry 0 true 0 1 ∷ []) × EndsSettled two_versions with_root

-- ---- once the first candidate is decided, clause 2 implies the helper's negation, and by that clause 3 the other
-- candidate's

abbrev pub decided : List (Command ℕ ℕ)
decided = with_root ++ Decide ∷ Assign 1 true 0 2 ∷ []

abbrev pub with_implied : List (Command ℕ ℕ)
with_implied = decided ++ Assign 3 false 2 2 ∷ Assign 2 false 3 2 ∷ []

abbrev pub OtherExcluded : Type 0
OtherExcluded = Implies two_versions decided 2 (entry 3 false 2 2 ∷ entry 2 false 3 2 ∷ []) ×
    EndsSettled two_versions with_implied

-- ---- no decision is left then; the implied entries are handed out; and undone to level 1 all is settled again

abbrev pub SaturatedSearch : Type 0
SaturatedSearch =
    Gives two_versions
    (with_implied ++ Decide ∷ Unpropagated ∷ Unpropagated ∷ Unpropagated ∷ Unpropagated ∷ Unpropagated ∷
    UndoUntil 1 ∷ Decide ∷ [])
    (ClauseIs 0 false ∷ LoadedAs ((1 ∷ 2 ∷ []) ∷ []) ∷ ClauseIs 1 false ∷ TrackedAs true 0 ∷
    TrackedAs true 2 ∷ Assigned ∷
    decides 1 0 1 2 ∷ Assigned ∷ Assigned ∷ Assigned ∷ NoDecision ∷
    hands 0 true 0 ∷ hands 1 true 0 ∷ hands 3 false 2 ∷ hands 2 false 3 ∷ Next None ∷ Undone None ∷
    decides 1 0 1 2 ∷ [])

abbrev pub SettledAgain : Type 0
SettledAgain = EndsSettled two_versions (with_implied ++ UndoUntil 1 ∷ [])

-- ---- the one candidate of a true parent is false: the clause is; and a level is refused first

abbrev pub one_version : Packages
one_version = record { solvables = solvable 0 1 ∷ []; sets = range 0 1 2 ∷ []; unions = []; strings = 0 }

abbrev pub candidate_false : List (Command ℕ ℕ)
candidate_false = Load (single 0) ∷ Requires 0 (single 0) None ∷ Assign 0 true 0 1 ∷ Assign 1 false 0 1 ∷ []

abbrev pub ClauseIsFalse : Type 0
ClauseIsFalse = EndsInConflict one_version candidate_false 0

abbrev pub LevelRefusedFirst : Type 0
LevelRefusedFirst =
    Gives one_version (candidate_false ++ Saturate 0 ∷ Decide ∷ [])
    (LoadedAs ((1 ∷ []) ∷ []) ∷ ClauseIs 0 false ∷ Assigned ∷ Assigned ∷ Refused LevelOutOfRange ∷ Falsified 0 ∷ [])

-- ---- a requirement without candidates implies its parent's negation

abbrev pub no_version : Packages
no_version = record { solvables = []; sets = range 0 1 2 ∷ []; unions = []; strings = 0 }

abbrev pub without_candidates : List (Command ℕ ℕ)
without_candidates = Load (single 0) ∷ Requires 0 (single 0) None ∷ []

abbrev pub ParentImpliedFalse : Type 0
ParentImpliedFalse =
    Implies no_version without_candidates 1 (entry 0 false 0 1 ∷ []) ×
    EndsSettled no_version (without_candidates ++ Assign 0 false 0 1 ∷ [])

abbrev pub ImpliedUndone : Type 0
ImpliedUndone =
    Gives no_version (without_candidates ++ Assign 0 false 0 1 ∷ UndoLast ∷ [])
    (LoadedAs ([] ∷ []) ∷ ClauseIs 0 false ∷ Assigned ∷ takes_back 0 false 0 0 ∷ [])

-- ---- all of them

pub record SaturationExamples : Type 0 where
  pub root_implied : RootImplied
  pub other_excluded : OtherExcluded
  pub saturated_search : SaturatedSearch
  pub settled_again : SettledAgain
  pub clause_is_false : ClauseIsFalse
  pub level_refused_first : LevelRefusedFirst
  pub parent_implied_false : ParentImpliedFalse
  pub implied_undone : ImpliedUndone
