-- Worked examples of clauses under conditions, of tracked variables and of a favored version, computed.
use Rattle.std.specs.Prelude.{ℕ, true, false, List, [], ◌∷◌, ◌++◌, Some, None}
use Rattle.resolvo_ids.specs.Types.StoreError.TheVariants.{UnknownId, NotLoaded, NegatesParent, BadLearnt}
use Rattle.resolvo_clauses.specs.Literals.{Pos, Neg}
use Rattle.resolvo_store.specs.declared.helper_origin.HelperOrigin.TheVariants as Helps
use Rattle.resolvo_store.specs.Command.{Command, Variable, Helper, Load, Disjunction, Requires, Root}
use Rattle.resolvo_store.specs.Command.{Learnt, AtMostOnce, Assign, UndoUntil, Bump, Watchers, Decide}
use Rattle.resolvo_store.specs.Command.{VariableIs, LoadedAs, DisjunctionIs, ClauseIs, TrackedAs, Assigned}
use Rattle.resolvo_store.specs.Command.{Undone, Done, WatchersAre, NoDecision, Falsified, Refused}
use Rattle.test_store_calls.specs.Script.{Packages}
use Rattle.test_store_calls.specs.ExampleWords.{Gives, GivesFavored, Leaves, solvable, range}
use Rattle.test_store_calls.specs.ExampleWords.{single, decides_at, decides, two_versions}

-- ---- a clause waits for its condition: a clause with a score is picked, until the condition's literal is false and
-- the first
-- clause stands before it with as many candidates

abbrev pub WaitsForCondition : Type 0
WaitsForCondition =
    Gives (record {
      solvables = solvable 0 1 ∷ solvable 1 1 ∷ solvable 2 1 ∷ solvable 3 1 ∷ solvable 3 2 ∷ solvable 4 1 ∷
          solvable 4 2 ∷ solvable 5 1 ∷ solvable 5 2 ∷ [];
      sets = range 2 1 2 ∷ range 3 1 3 ∷ range 4 1 3 ∷ range 5 1 3 ∷ [];
      unions = [];
      strings = 0;
    })
    (Variable 0 ∷ Variable 1 ∷ Variable 2 ∷ Load (single 1) ∷ Load (single 2) ∷ Load (single 3) ∷
    Disjunction (Pos 3 ∷ []) 0 ∷ Root ∷
    Requires 1 (single 1) (Some 0) ∷ Requires 2 (single 2) None ∷ Requires 1 (single 3) None ∷ Assign 1 true 0 1 ∷
    Assign 2 true 0 1 ∷
    Bump 4 3 ∷ Bump 5 3 ∷ Decide ∷ Assign 3 false 0 1 ∷ Decide ∷ [])
    (VariableIs 1 ∷ VariableIs 2 ∷ VariableIs 3 ∷ LoadedAs ((4 ∷ 5 ∷ []) ∷ []) ∷ LoadedAs ((6 ∷ 7 ∷ []) ∷ []) ∷
    LoadedAs ((8 ∷ 9 ∷ []) ∷ []) ∷
    DisjunctionIs 0 ∷ ClauseIs 0 false ∷ ClauseIs 1 false ∷ ClauseIs 2 false ∷ ClauseIs 3 false ∷ Assigned ∷ Assigned ∷
    Done ∷ Done ∷ decides_at 8 1 3 3 2 ∷ Assigned ∷ decides 4 1 1 2 ∷ [])

-- ---- a condition of two literals: while one is undecided or true its clause wants no decision, and isn't falsified;
-- one
-- without literals holds always

abbrev pub ConditionOpens : Type 0
ConditionOpens =
    Gives two_versions
    (Helper (Helps.AtLeastOne 0) ∷ Helper (Helps.AtLeastOne 0) ∷ Load (single 0) ∷ Root ∷
    Disjunction (Pos 1 ∷ Neg 2 ∷ []) 0 ∷
    Requires 0 (single 0) (Some 0) ∷ Assign 0 true 0 1 ∷ Decide ∷ Assign 1 false 0 1 ∷ Decide ∷ Assign 2 false 0 2 ∷
    Decide ∷ UndoUntil 1 ∷
    Assign 2 true 0 2 ∷ Decide ∷ Assign 3 false 1 2 ∷ Assign 4 false 1 2 ∷ Decide ∷ UndoUntil 1 ∷
    Assign 3 false 1 2 ∷ Assign 4 false 1 2 ∷ Decide ∷ Assign 2 true 0 3 ∷ Decide ∷ [])
    (VariableIs 1 ∷ VariableIs 2 ∷ LoadedAs ((3 ∷ 4 ∷ []) ∷ []) ∷ ClauseIs 0 false ∷ DisjunctionIs 0 ∷
    ClauseIs 1 false ∷ Assigned ∷ NoDecision ∷ Assigned ∷ NoDecision ∷ Assigned ∷ NoDecision ∷ Undone None ∷
    Assigned ∷ decides 3 0 1 2 ∷ Assigned ∷ Assigned ∷ Falsified 1 ∷ Undone None ∷
    Assigned ∷ Assigned ∷ NoDecision ∷ Assigned ∷ Falsified 1 ∷ [])

abbrev pub EmptyCondition : Type 0
EmptyCondition =
    Gives two_versions
    (Root ∷ Load (single 0) ∷ Disjunction [] 0 ∷ Requires 0 (single 0) (Some 0) ∷ Assign 0 true 0 1 ∷ Decide ∷ [])
    (ClauseIs 0 false ∷ LoadedAs ((1 ∷ 2 ∷ []) ∷ []) ∷ DisjunctionIs 0 ∷ ClauseIs 1 false ∷ Assigned ∷
    decides 1 0 1 2 ∷ [])

-- ---- the literals of a clause under a condition, and what it watches: its parent, and the first other literal that
-- isn't false

abbrev pub ConditionLiterals : Type 0
ConditionLiterals =
    Leaves two_versions
    (Load (single 0) ∷ Helper (Helps.AtLeastOne 0) ∷ Root ∷ Disjunction (Pos 3 ∷ []) 0 ∷
    Requires 0 (single 0) (Some 0) ∷
    Assign 3 false 0 1 ∷ Requires 0 (single 0) (Some 0) ∷ [])
    ((Pos 0 ∷ []) ∷ (Neg 0 ∷ Pos 3 ∷ Pos 1 ∷ Pos 2 ∷ []) ∷ (Neg 0 ∷ Pos 3 ∷ Pos 1 ∷ Pos 2 ∷ []) ∷ [])
    ([] ∷ (Neg 0 ∷ Pos 3 ∷ []) ∷ (Neg 0 ∷ Pos 1 ∷ []) ∷ [])

-- ---- what is refused of clauses under conditions, in order

abbrev pub one_version : Packages
one_version = record { solvables = solvable 0 1 ∷ []; sets = range 0 1 2 ∷ []; unions = []; strings = 0 }

abbrev pub ConditionsRefused : Type 0
ConditionsRefused =
    Gives one_version
    (Requires 0 (single 0) None ∷ Requires 0 (single 7) None ∷ Requires 9 (single 0) None ∷ Load (single 0) ∷
    Disjunction (Neg 0 ∷ []) 0 ∷
    Requires 0 (single 0) (Some 0) ∷ Assign 0 true 0 1 ∷ Learnt [] ∷ [])
    (Refused NotLoaded ∷ Refused UnknownId ∷ Refused UnknownId ∷ LoadedAs ((1 ∷ []) ∷ []) ∷ DisjunctionIs 0 ∷
    Refused NegatesParent ∷ Refused UnknownId ∷ Refused BadLearnt ∷ [])

abbrev pub UnknownConditions : Type 0
UnknownConditions =
    Gives one_version
    (Disjunction (Pos 1 ∷ []) 0 ∷ Disjunction [] 1 ∷ Disjunction (Pos 0 ∷ Neg 0 ∷ []) 0 ∷
    Requires 0 (single 0) (Some 1) ∷
    Requires 0 (single 0) (Some 0) ∷ Load (single 0) ∷ Requires 0 (single 0) (Some 0) ∷ Disjunction (Pos 0 ∷ []) 0 ∷
    Requires 0 (single 0) (Some 1) ∷ [])
    (Refused UnknownId ∷ Refused UnknownId ∷ DisjunctionIs 0 ∷ Refused UnknownId ∷
    Refused NotLoaded ∷ LoadedAs ((1 ∷ []) ∷ []) ∷ Refused NegatesParent ∷ DisjunctionIs 1 ∷ ClauseIs 0 false ∷ [])

-- ---- four variables of which at most one is true, with two helpers: each variable has the bits of its place for the
-- helpers'
-- values; one that is tracked already changes nothing, and a helper isn't tracked

abbrev pub four_versions : Packages
four_versions =
    record {
      solvables = solvable 0 1 ∷ solvable 0 2 ∷ solvable 0 3 ∷ solvable 0 4 ∷ [];
      sets = [];
      unions = [];
      strings = 0;
    }

abbrev pub tracks_four : List (Command ℕ ℕ)
tracks_four =
    Variable 0 ∷ Variable 1 ∷ Variable 2 ∷ Variable 3 ∷ AtMostOnce 0 1 ∷ AtMostOnce 0 2 ∷ AtMostOnce 0 3 ∷
    AtMostOnce 0 4 ∷ AtMostOnce 0 2 ∷ AtMostOnce 0 5 ∷ []

abbrev pub FourTracked : Type 0
FourTracked =
    Gives four_versions (tracks_four ++ Watchers (Neg 1) ∷ Watchers (Pos 5) ∷ [])
    (VariableIs 1 ∷ VariableIs 2 ∷ VariableIs 3 ∷ VariableIs 4 ∷ TrackedAs true 0 ∷ TrackedAs true 2 ∷
    TrackedAs true 4 ∷ TrackedAs true 2 ∷
    TrackedAs false 0 ∷ Refused UnknownId ∷ WatchersAre (2 ∷ 0 ∷ []) ∷ WatchersAre (6 ∷ 1 ∷ []) ∷ [])

abbrev pub FourTrackedLiterals : Type 0
FourTrackedLiterals =
    Leaves four_versions tracks_four
    ((Neg 1 ∷ Neg 5 ∷ []) ∷ (Neg 2 ∷ Pos 5 ∷ []) ∷ (Neg 1 ∷ Neg 6 ∷ []) ∷ (Neg 2 ∷ Neg 6 ∷ []) ∷
    (Neg 3 ∷ Neg 5 ∷ []) ∷ (Neg 3 ∷ Pos 6 ∷ []) ∷ (Neg 4 ∷ Pos 5 ∷ []) ∷ (Neg 4 ∷ Pos 6 ∷ []) ∷ [])
    ((Neg 1 ∷ Neg 5 ∷ []) ∷ (Neg 2 ∷ Pos 5 ∷ []) ∷ (Neg 1 ∷ Neg 6 ∷ []) ∷ (Neg 2 ∷ Neg 6 ∷ []) ∷
    (Neg 3 ∷ Neg 5 ∷ []) ∷ (Neg 3 ∷ Pos 6 ∷ []) ∷ (Neg 4 ∷ Pos 5 ∷ []) ∷ (Neg 4 ∷ Pos 6 ∷ []) ∷ [])

-- ---- under each name variables are tracked by themselves, and a helper under none

abbrev pub TwoNames : Type 0
TwoNames =
    Gives two_versions
    (Variable 0 ∷ Variable 1 ∷ AtMostOnce 0 1 ∷ AtMostOnce 1 1 ∷ AtMostOnce 0 2 ∷ AtMostOnce 1 2 ∷ AtMostOnce 1 1 ∷
    AtMostOnce 0 3 ∷ AtMostOnce 1 3 ∷ AtMostOnce 0 9 ∷ Helper (Helps.AtLeastOne 0) ∷ AtMostOnce 0 5 ∷ AtMostOnce 1 0 ∷
    Watchers (Neg 3) ∷ Watchers (Pos 7) ∷ [])
    (VariableIs 1 ∷ VariableIs 2 ∷ TrackedAs true 0 ∷ TrackedAs true 0 ∷ TrackedAs true 2 ∷ TrackedAs true 2 ∷
    TrackedAs false 0 ∷
    Refused UnknownId ∷ Refused UnknownId ∷ Refused UnknownId ∷ VariableIs 5 ∷ TrackedAs true 4 ∷ TrackedAs true 4 ∷
    WatchersAre (6 ∷ 0 ∷ []) ∷ WatchersAre (11 ∷ []) ∷ [])

-- ---- a favored version comes first, where the version set has it

abbrev pub from_three : ℕ → Packages
from_three high =
    record {
      solvables = solvable 0 3 ∷ solvable 0 4 ∷ solvable 0 5 ∷ [];
      sets = range 0 3 high ∷ [];
      unions = [];
      strings = 0;
    }

abbrev pub FavoredFirst : Type 0
FavoredFirst =
    GivesFavored (from_three 6) 1 (Load (single 0) ∷ Variable 1 ∷ Variable 2 ∷ Variable 0 ∷ [])
    (LoadedAs ((1 ∷ 2 ∷ 3 ∷ []) ∷ []) ∷ VariableIs 1 ∷ VariableIs 2 ∷ VariableIs 3 ∷ [])

abbrev pub FavoredOutside : Type 0
FavoredOutside =
    GivesFavored (from_three 5) 2 (Load (single 0) ∷ Variable 1 ∷ [])
    (LoadedAs ((1 ∷ 2 ∷ []) ∷ []) ∷ VariableIs 1 ∷ [])
