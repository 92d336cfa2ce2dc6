-- Worked examples: what the abstract store replies to some lists of commands, computed.
use Rattle.std.specs.Prelude.{true, false, [], ◌∷◌, Some, None}
use Rattle.resolvo_ids.specs.Types.StoreError.TheVariants.{UnknownId, LevelOutOfRange, NotLoaded}
use Rattle.resolvo_ids.specs.Types.StoreError.TheVariants.{BadWatch, BadLearnt, EmptyTrail}
use Rattle.resolvo_clauses.specs.Literals.{Pos, Neg}
use Rattle.resolvo_store.specs.declared.helper_origin.HelperOrigin.TheVariants as Helps
use Rattle.resolvo_store.specs.Command.{Variable, Helper, Load, Requires, Root, Constrains}
use Rattle.resolvo_store.specs.Command.{ConstrainsExcluded, ConstrainsParent, Lock, Exclude, AnyOf, Learnt}
use Rattle.resolvo_store.specs.Command.{Assign, UndoLast, UndoUntil, Unpropagated, Rewatch, Watchers}
use Rattle.resolvo_store.specs.Command.{Decide, VariableIs, LoadedAs, ClauseIs, Assigned, Already, Clash}
use Rattle.resolvo_store.specs.Command.{Undone, Next, Done, WatchersAre, NoDecision, Falsified, Refused}
use Rattle.test_store_calls.specs.Script.{Packages}
use Rattle.test_store_calls.specs.ExampleWords.{Gives, Leaves, solvable, range, set, string, single}
use Rattle.test_store_calls.specs.ExampleWords.{union, decides, hands, takes_back, two_versions}
use Rattle.test_store_calls.specs.ScoreExamples.{ScoreAndCount, LateScore, ScoreAlone, CountAlone, RootProtected}
use Rattle.test_store_calls.specs.ScoreExamples.{OthersReplaced, RootFirst, OthersAfterRoot, FalsifiedBeforeRoot}
use Rattle.test_store_calls.specs.ScoreExamples.{ScoresFall, RoundedDown, EitherSetting, CountOfOneSet}
use Rattle.test_store_calls.specs.ScoreExamples.{BetterOffer, EqualCount, EqualScore, RootStays, BestSoFar}
use Rattle.test_store_calls.specs.ScoreExamples.{RootAlone, OthersByScore, RootReplaces, FirstWithoutScores}
use Rattle.test_store_calls.specs.ConditionExamples.{WaitsForCondition, ConditionOpens}
use Rattle.test_store_calls.specs.ConditionExamples.{EmptyCondition, ConditionLiterals}
use Rattle.test_store_calls.specs.ConditionExamples.{ConditionsRefused, UnknownConditions, FourTracked}
use Rattle.test_store_calls.specs.ConditionExamples.{FourTrackedLiterals, TwoNames, FavoredFirst, FavoredOutside}
use Rattle.test_store_calls.specs.SaturationExamples.{SaturationExamples}

-- ---- two packages: a decision is asked for, taken, undone, and asked for again; then their union is loaded

abbrev pub TwoPackages : Type 0
TwoPackages =
    Gives (record {
      solvables = solvable 0 1 ∷ solvable 0 2 ∷ solvable 1 1 ∷ [];
      sets = range 0 1 3 ∷ range 1 1 2 ∷ [];
      unions = (0 ∷ 1 ∷ []) ∷ [];
      strings = 0;
    })
    (Load (single 0) ∷ Load (single 1) ∷ Requires 0 (single 0) None ∷ Requires 0 (single 1) None ∷ Decide ∷
    Assign 0 true 0 1 ∷ Decide ∷ Assign 1 true 0 2 ∷ Decide ∷ UndoUntil 1 ∷ Decide ∷ Load (union 0) ∷ [])
    (LoadedAs ((1 ∷ 2 ∷ []) ∷ []) ∷ LoadedAs ((3 ∷ []) ∷ []) ∷ ClauseIs 0 false ∷ ClauseIs 1 false ∷ NoDecision ∷
    Assigned ∷ decides 1 0 0 2 ∷ Assigned ∷ decides 3 0 1 1 ∷ Undone None ∷ decides 1 0 0 2 ∷
    LoadedAs ((1 ∷ 2 ∷ []) ∷ (3 ∷ []) ∷ []) ∷ [])

-- ---- refusals, and a clause that becomes falsified

abbrev pub OnePackage : Type 0
OnePackage =
    Gives (record { solvables = solvable 0 1 ∷ solvable 0 2 ∷ []; sets = range 0 1 3 ∷ []; unions = []; strings = 0 })
    (Requires 0 (single 0) None ∷ Load (single 0) ∷ Load (union 0) ∷ Requires 0 (single 0) (Some 0) ∷
    Requires 0 (single 0) None ∷
    Assign 0 true 0 0 ∷ Assign 0 true 0 1 ∷ Assign 1 false 0 1 ∷ Assign 2 false 0 1 ∷ Decide ∷
    UndoUntil 0 ∷ Decide ∷ [])
    (Refused NotLoaded ∷ LoadedAs ((1 ∷ 2 ∷ []) ∷ []) ∷ Refused UnknownId ∷ Refused UnknownId ∷ ClauseIs 0 false ∷
    Refused LevelOutOfRange ∷ Assigned ∷ Assigned ∷ Assigned ∷ Falsified 0 ∷ Undone None ∷ NoDecision ∷ [])

-- ---- a met clause wants no decision, and wants one again once its candidate is undone

abbrev pub SatisfiedAndUndone : Type 0
SatisfiedAndUndone =
    Gives (record { solvables = solvable 0 1 ∷ []; sets = range 0 1 2 ∷ []; unions = []; strings = 0 })
    (Load (single 0) ∷ Requires 0 (single 0) None ∷ Assign 0 true 0 1 ∷ Assign 1 true 0 2 ∷ Decide ∷
    UndoUntil 1 ∷ Decide ∷ [])
    (LoadedAs ((1 ∷ []) ∷ []) ∷ ClauseIs 0 false ∷ Assigned ∷ Assigned ∷ NoDecision ∷ Undone None ∷
    decides 1 0 0 1 ∷ [])

-- ---- falsified: by a false candidate, and for want of candidates

abbrev pub FalseCandidate : Type 0
FalseCandidate =
    Gives (record { solvables = solvable 0 1 ∷ []; sets = range 0 1 2 ∷ []; unions = []; strings = 0 })
    (Load (single 0) ∷ Requires 0 (single 0) None ∷ Assign 0 true 0 1 ∷ Assign 1 false 0 1 ∷ Decide ∷ [])
    (LoadedAs ((1 ∷ []) ∷ []) ∷ ClauseIs 0 false ∷ Assigned ∷ Assigned ∷ Falsified 0 ∷ [])

abbrev pub NoCandidates : Type 0
NoCandidates =
    Gives (record { solvables = []; sets = range 0 1 2 ∷ []; unions = []; strings = 0 })
    (Load (single 0) ∷ Requires 0 (single 0) None ∷ Assign 0 true 0 1 ∷ Decide ∷ [])
    (LoadedAs ([] ∷ []) ∷ ClauseIs 0 false ∷ Assigned ∷ Falsified 0 ∷ [])

-- ---- two clauses are falsified: the reply names the first by the scan, which is the later one by registration, and
-- not
-- the last of the scan

abbrev pub FirstFalsifiedOfScan : Type 0
FirstFalsifiedOfScan =
    Gives (record {
      solvables = solvable 0 1 ∷ solvable 1 1 ∷ solvable 2 1 ∷ [];
      sets = range 2 1 2 ∷ range 3 1 2 ∷ [];
      unions = [];
      strings = 0;
    })
    (Variable 0 ∷ Variable 1 ∷ Load (single 0) ∷ Load (single 1) ∷
    Requires 1 (single 0) None ∷ Requires 2 (single 1) None ∷ Requires 1 (single 1) None ∷
    Assign 1 true 0 1 ∷ Assign 2 true 0 1 ∷ Decide ∷ [])
    (VariableIs 1 ∷ VariableIs 2 ∷ LoadedAs ((3 ∷ []) ∷ []) ∷ LoadedAs ([] ∷ []) ∷
    ClauseIs 0 false ∷ ClauseIs 1 false ∷ ClauseIs 2 false ∷ Assigned ∷ Assigned ∷ Falsified 2 ∷ [])

-- ---- the conflict flag: all candidates are false, and the parent isn't

abbrev pub ConflictFlag : Type 0
ConflictFlag =
    Gives (record { solvables = solvable 0 1 ∷ solvable 1 1 ∷ []; sets = range 1 1 2 ∷ []; unions = []; strings = 0 })
    (Variable 0 ∷ Load (single 0) ∷ Requires 1 (single 0) None ∷ Assign 2 false 0 1 ∷ Requires 1 (single 0) None ∷
    Assign 1 false 0 1 ∷ Requires 1 (single 0) None ∷ Assign 1 false 0 2 ∷ Assign 1 true 0 2 ∷ [])
    (VariableIs 1 ∷ LoadedAs ((2 ∷ []) ∷ []) ∷ ClauseIs 0 false ∷ Assigned ∷ ClauseIs 1 true ∷
    Assigned ∷ ClauseIs 2 false ∷ Already ∷ Clash ∷ [])

-- ---- a union that names one version set twice: its candidates stand in both lists, and each row counts

abbrev pub SetTwice : Type 0
SetTwice =
    Gives (record {
      solvables = solvable 0 1 ∷ solvable 0 2 ∷ [];
      sets = range 0 1 3 ∷ [];
      unions = (0 ∷ 0 ∷ []) ∷ [];
      strings = 0;
    })
    (Load (union 0) ∷ Requires 0 (union 0) None ∷ Assign 0 true 0 1 ∷ Decide ∷ Assign 1 false 0 1 ∷ Decide ∷ [])
    (LoadedAs ((1 ∷ 2 ∷ []) ∷ (1 ∷ 2 ∷ []) ∷ []) ∷ ClauseIs 0 false ∷ Assigned ∷ decides 1 0 0 4 ∷ Assigned ∷
    decides 2 0 0 2 ∷ [])

-- ---- a union of two packages: one list each, in the union's order; a count is that of one of them; a clause of it is
-- a
-- conflict only once the candidates of all lists are false

abbrev pub TwoPackagesInOne : Type 0
TwoPackagesInOne =
    Gives (record {
      solvables = solvable 0 1 ∷ solvable 0 2 ∷ solvable 1 1 ∷ [];
      sets = range 0 1 3 ∷ range 1 1 2 ∷ [];
      unions = (1 ∷ 0 ∷ []) ∷ [];
      strings = 0;
    })
    (Load (union 0) ∷ Load (union 1) ∷ Requires 0 (union 0) None ∷ Assign 0 true 0 1 ∷ Decide ∷
    Assign 1 false 0 1 ∷ Decide ∷
    Requires 0 (union 0) None ∷ Assign 2 false 0 1 ∷ Assign 3 false 0 1 ∷ Requires 0 (union 0) None ∷ Decide ∷ [])
    (LoadedAs ((1 ∷ []) ∷ (2 ∷ 3 ∷ []) ∷ []) ∷ Refused UnknownId ∷ ClauseIs 0 false ∷ Assigned ∷ decides 1 0 0 1 ∷
    Assigned ∷ decides 2 0 0 2 ∷
    ClauseIs 1 false ∷ Assigned ∷ Assigned ∷ ClauseIs 2 true ∷ Falsified 0 ∷ [])

-- ---- a clause for the root has the first id: met and undone, falsified for both reasons, and a set that is named
-- twice

abbrev pub SatisfiedAfterRoot : Type 0
SatisfiedAfterRoot =
    Gives (record { solvables = solvable 0 1 ∷ []; sets = range 0 1 2 ∷ []; unions = []; strings = 0 })
    (Root ∷ Load (single 0) ∷ Requires 0 (single 0) None ∷ Assign 0 true 0 1 ∷ Assign 1 true 1 2 ∷ Decide ∷
    UndoUntil 1 ∷ Decide ∷ [])
    (ClauseIs 0 false ∷ LoadedAs ((1 ∷ []) ∷ []) ∷ ClauseIs 1 false ∷ Assigned ∷ Assigned ∷ NoDecision ∷ Undone None ∷
    decides 1 0 1 1 ∷ [])

abbrev pub FalsifiedAfterRoot : Type 0
FalsifiedAfterRoot =
    Gives (record { solvables = solvable 0 1 ∷ []; sets = range 0 1 2 ∷ []; unions = []; strings = 0 })
    (Root ∷ Load (single 0) ∷ Requires 0 (single 0) None ∷ Assign 0 true 0 1 ∷ Assign 1 false 1 1 ∷ Decide ∷ [])
    (ClauseIs 0 false ∷ LoadedAs ((1 ∷ []) ∷ []) ∷ ClauseIs 1 false ∷ Assigned ∷ Assigned ∷ Falsified 1 ∷ [])

abbrev pub NoCandidatesAfterRoot : Type 0
NoCandidatesAfterRoot =
    Gives (record { solvables = []; sets = range 0 1 2 ∷ []; unions = []; strings = 0 })
    (Root ∷ Load (single 0) ∷ Requires 0 (single 0) None ∷ Assign 0 true 0 1 ∷ Decide ∷ [])
    (ClauseIs 0 false ∷ LoadedAs ([] ∷ []) ∷ ClauseIs 1 false ∷ Assigned ∷ Falsified 1 ∷ [])

abbrev pub SetTwiceAfterRoot : Type 0
SetTwiceAfterRoot =
    Gives (record {
      solvables = solvable 0 1 ∷ solvable 0 2 ∷ [];
      sets = range 0 1 3 ∷ [];
      unions = (0 ∷ 0 ∷ []) ∷ [];
      strings = 0;
    })
    (Root ∷ Load (union 0) ∷ Requires 0 (union 0) None ∷ Assign 0 true 0 1 ∷ Decide ∷ Assign 1 false 1 1 ∷ Decide ∷ [])
    (ClauseIs 0 false ∷ LoadedAs ((1 ∷ 2 ∷ []) ∷ (1 ∷ 2 ∷ []) ∷ []) ∷ ClauseIs 1 false ∷ Assigned ∷ decides 1 0 1 4 ∷
    Assigned ∷ decides 2 0 1 2 ∷ [])

-- ---- the trail: assignments are handed out from the oldest on, and taken back from the newest on

abbrev pub three_versions : Packages
three_versions =
    record {
      solvables = solvable 0 1 ∷ solvable 0 2 ∷ solvable 0 3 ∷ [];
      sets = range 0 1 4 ∷ [];
      unions = [];
      strings = 1;
    }

abbrev pub HandedAndTakenBack : Type 0
HandedAndTakenBack =
    Gives three_versions
    (Root ∷ Variable 0 ∷ Variable 1 ∷ Variable 2 ∷ Assign 1 true 0 1 ∷ Assign 2 true 0 2 ∷ Assign 3 false 0 2 ∷
    Assign 3 false 0 5 ∷ Assign 3 true 0 2 ∷ Assign 1 true 0 0 ∷
    Unpropagated ∷ UndoLast ∷ Unpropagated ∷ UndoLast ∷ UndoLast ∷ UndoLast ∷ [])
    (ClauseIs 0 false ∷ VariableIs 1 ∷ VariableIs 2 ∷ VariableIs 3 ∷ Assigned ∷ Assigned ∷ Assigned ∷
    Already ∷ Clash ∷ Refused LevelOutOfRange ∷
    hands 1 true 0 ∷ takes_back 3 false 0 2 ∷ hands 2 true 0 ∷ takes_back 2 true 0 1 ∷ takes_back 1 true 0 0 ∷
    Refused EmptyTrail ∷ [])

-- ---- what stands in the place of an assignment that was handed out and taken back is handed out again

abbrev pub HandedAgain : Type 0
HandedAgain =
    Gives three_versions
    (Root ∷ Variable 0 ∷ Variable 1 ∷ Assign 0 true 0 1 ∷ Assign 1 true 0 1 ∷ Assign 2 true 0 2 ∷
    Unpropagated ∷ Unpropagated ∷ Unpropagated ∷ Unpropagated ∷ UndoLast ∷ UndoLast ∷ Unpropagated ∷
    Assign 2 false 0 2 ∷ Unpropagated ∷ UndoUntil 1 ∷ Assign 1 false 0 3 ∷ Unpropagated ∷ Unpropagated ∷ [])
    (ClauseIs 0 false ∷ VariableIs 1 ∷ VariableIs 2 ∷ Assigned ∷ Assigned ∷ Assigned ∷
    hands 0 true 0 ∷ hands 1 true 0 ∷ hands 2 true 0 ∷ Next None ∷ takes_back 2 true 0 1 ∷
    takes_back 1 true 0 1 ∷ Next None ∷
    Assigned ∷ hands 2 false 0 ∷ Undone None ∷ Assigned ∷ hands 1 false 0 ∷ Next None ∷ [])

-- ---- helper variables, learnt clauses and strings, with what is refused of them

abbrev pub HelpersAndLearnt : Type 0
HelpersAndLearnt =
    Gives (record { solvables = solvable 0 1 ∷ []; sets = range 0 1 2 ∷ []; unions = []; strings = 1 })
    (Helper (Helps.AtLeastOne 0) ∷ Helper (Helps.ConstrainsViolation (set 0)) ∷ Helper (Helps.RequiresGate (single 0)) ∷
    Learnt [] ∷ Learnt (Pos 1 ∷ []) ∷ Learnt (Pos 1 ∷ Neg 2 ∷ Pos 1 ∷ []) ∷ Exclude 1 (string 0) ∷
    Exclude 1 (string 1) ∷ [])
    (VariableIs 1 ∷ VariableIs 2 ∷ VariableIs 3 ∷
    Refused BadLearnt ∷ ClauseIs 0 false ∷ Refused BadLearnt ∷ ClauseIs 1 false ∷ Refused UnknownId ∷ [])

-- ---- the conflict flag of the kinds with two solvables: the second one is true, and the first one isn't false; the
-- other
-- kinds have none

abbrev pub FlagsOfPairs : Type 0
FlagsOfPairs =
    Gives three_versions
    (Root ∷ Variable 0 ∷ Variable 1 ∷ Constrains 1 2 (set 0) ∷ ConstrainsParent 1 2 (set 0) ∷
    Assign 2 true 0 1 ∷ Constrains 1 2 (set 0) ∷ ConstrainsParent 1 2 (set 0) ∷ ConstrainsExcluded 1 2 (set 0) ∷
    ConstrainsExcluded 2 1 (set 0) ∷
    Assign 1 false 0 1 ∷ Constrains 1 2 (set 0) ∷ ConstrainsParent 1 2 (set 0) ∷ ConstrainsExcluded 2 1 (set 0) ∷
    Assign 0 true 0 1 ∷ Constrains 0 2 (set 0) ∷ ConstrainsParent 0 2 (set 0) ∷
    Lock 1 2 ∷ AnyOf 1 2 ∷ Exclude 2 (string 0) ∷ Learnt (Pos 1 ∷ []) ∷ [])
    (ClauseIs 0 false ∷ VariableIs 1 ∷ VariableIs 2 ∷ ClauseIs 1 false ∷ ClauseIs 2 false ∷
    Assigned ∷ ClauseIs 3 true ∷ ClauseIs 4 true ∷ ClauseIs 5 false ∷ ClauseIs 6 false ∷
    Assigned ∷ ClauseIs 7 false ∷ ClauseIs 8 false ∷ ClauseIs 9 false ∷
    Assigned ∷ ClauseIs 10 true ∷ ClauseIs 11 true ∷
    ClauseIs 12 false ∷ ClauseIs 13 false ∷ ClauseIs 14 false ∷ ClauseIs 15 false ∷ [])

-- ---- the literals of each kind, and what a new one watches: a lock's name the other solvable and the root

abbrev pub LiteralsOfKinds : Type 0
LiteralsOfKinds =
    Leaves three_versions
    (Load (single 0) ∷ Root ∷ Requires 0 (single 0) None ∷ Assign 1 false 0 1 ∷ Requires 0 (single 0) None ∷
    Constrains 1 2 (set 0) ∷ ConstrainsExcluded 1 2 (set 0) ∷ ConstrainsParent 1 2 (set 0) ∷ Lock 1 2 ∷
    Exclude 1 (string 0) ∷ AnyOf 1 2 ∷
    Learnt (Pos 1 ∷ Neg 2 ∷ Pos 3 ∷ []) ∷ Learnt (Neg 3 ∷ []) ∷ Constrains 1 1 (set 0) ∷ [])
    ((Pos 0 ∷ []) ∷ (Neg 0 ∷ Pos 1 ∷ Pos 2 ∷ Pos 3 ∷ []) ∷ (Neg 0 ∷ Pos 1 ∷ Pos 2 ∷ Pos 3 ∷ []) ∷
    (Neg 1 ∷ Neg 2 ∷ []) ∷ (Neg 1 ∷ Pos 2 ∷ []) ∷ (Neg 1 ∷ Neg 2 ∷ []) ∷ (Neg 2 ∷ Neg 0 ∷ []) ∷ (Neg 1 ∷ []) ∷
    (Pos 1 ∷ Neg 2 ∷ []) ∷
    (Pos 1 ∷ Neg 2 ∷ Pos 3 ∷ []) ∷ (Neg 3 ∷ []) ∷ (Neg 1 ∷ Neg 1 ∷ []) ∷ [])
    ([] ∷ (Neg 0 ∷ Pos 1 ∷ []) ∷ (Neg 0 ∷ Pos 2 ∷ []) ∷
    (Neg 1 ∷ Neg 2 ∷ []) ∷ (Neg 1 ∷ Pos 2 ∷ []) ∷ (Neg 1 ∷ Neg 2 ∷ []) ∷ (Neg 0 ∷ Neg 2 ∷ []) ∷ [] ∷
    (Pos 1 ∷ Neg 2 ∷ []) ∷
    (Pos 1 ∷ Pos 3 ∷ []) ∷ [] ∷ [] ∷ [])

-- ---- a requires clause watches its parent and the first candidate that isn't false, or the first one where all are

abbrev pub RequiresWatches : Type 0
RequiresWatches =
    Gives (record {
      solvables = solvable 0 1 ∷ solvable 1 1 ∷ solvable 1 2 ∷ [];
      sets = range 1 1 3 ∷ [];
      unions = [];
      strings = 0;
    })
    (Root ∷ Variable 0 ∷ Load (single 0) ∷ Requires 1 (single 0) None ∷ Assign 2 false 0 1 ∷
    Requires 1 (single 0) None ∷
    Assign 3 false 0 1 ∷ Requires 1 (single 0) None ∷ Assign 1 false 0 1 ∷ Requires 1 (single 0) None ∷
    Watchers (Pos 2) ∷ Watchers (Pos 3) ∷ Watchers (Neg 1) ∷ [])
    (ClauseIs 0 false ∷ VariableIs 1 ∷ LoadedAs ((2 ∷ 3 ∷ []) ∷ []) ∷ ClauseIs 1 false ∷ Assigned ∷ ClauseIs 2 false ∷
    Assigned ∷ ClauseIs 3 true ∷ Assigned ∷ ClauseIs 4 false ∷
    WatchersAre (4 ∷ 3 ∷ 1 ∷ []) ∷ WatchersAre (2 ∷ []) ∷ WatchersAre (4 ∷ 3 ∷ 2 ∷ 1 ∷ []) ∷ [])

-- ---- a clause of two literals watches both, and one that has a literal twice watches nothing

abbrev pub PairWatches : Type 0
PairWatches =
    Gives two_versions
    (Variable 0 ∷ Variable 1 ∷ Constrains 1 2 (set 0) ∷ Watchers (Neg 1) ∷ Watchers (Neg 2) ∷ Constrains 1 1 (set 0) ∷
    Watchers (Neg 1) ∷
    Assign 2 true 0 1 ∷ Constrains 1 2 (set 0) ∷ [])
    (VariableIs 1 ∷ VariableIs 2 ∷ ClauseIs 0 false ∷ WatchersAre (0 ∷ []) ∷ WatchersAre (0 ∷ []) ∷ ClauseIs 1 false ∷
    WatchersAre (0 ∷ []) ∷
    Assigned ∷ ClauseIs 2 true ∷ [])

-- ---- a clause that watches another literal leaves one list, and goes to the front of the other

abbrev pub MovedWatches : Type 0
MovedWatches =
    Gives (record {
      solvables = solvable 0 1 ∷ solvable 0 2 ∷ solvable 0 3 ∷ solvable 0 4 ∷ [];
      sets = [];
      unions = [];
      strings = 0;
    })
    (Variable 0 ∷ Variable 1 ∷ Variable 2 ∷ Variable 3 ∷
    Learnt (Pos 1 ∷ Pos 2 ∷ Pos 3 ∷ []) ∷ Learnt (Pos 1 ∷ Pos 2 ∷ Pos 3 ∷ []) ∷ Learnt (Pos 1 ∷ Pos 2 ∷ Pos 4 ∷ []) ∷
    Watchers (Pos 1) ∷ Rewatch 2 (Pos 1) (Pos 2) ∷ Rewatch 0 (Pos 1) (Pos 2) ∷ Watchers (Pos 1) ∷ Watchers (Pos 2) ∷
    Rewatch 0 (Pos 1) (Pos 2) ∷ Rewatch 1 (Pos 1) (Pos 3) ∷ Rewatch 1 (Pos 1) (Neg 1) ∷ Watchers (Neg 1) ∷
    Learnt (Pos 1 ∷ Pos 2 ∷ Pos 1 ∷ []) ∷ [])
    (VariableIs 1 ∷ VariableIs 2 ∷ VariableIs 3 ∷ VariableIs 4 ∷
    ClauseIs 0 false ∷ ClauseIs 1 false ∷ ClauseIs 2 false ∷
    WatchersAre (2 ∷ 1 ∷ 0 ∷ []) ∷ Done ∷ Done ∷ WatchersAre (1 ∷ []) ∷ WatchersAre (0 ∷ 2 ∷ []) ∷
    Refused BadWatch ∷ Refused BadWatch ∷ Refused BadWatch ∷ WatchersAre [] ∷
    Refused BadLearnt ∷ [])

-- ---- the two literals of a variable have lists of their own

abbrev pub SignsApart : Type 0
SignsApart =
    Gives two_versions
    (Root ∷ Variable 0 ∷ Variable 1 ∷ Assign 2 true 0 1 ∷ ConstrainsParent 1 2 (set 0) ∷
    Assign 1 false 0 1 ∷ Constrains 1 2 (set 0) ∷ ConstrainsExcluded 1 2 (set 0) ∷ Watchers (Pos 2) ∷
    Watchers (Neg 2) ∷ [])
    (ClauseIs 0 false ∷ VariableIs 1 ∷ VariableIs 2 ∷ Assigned ∷ ClauseIs 1 true ∷
    Assigned ∷ ClauseIs 2 false ∷ ClauseIs 3 false ∷ WatchersAre (3 ∷ []) ∷ WatchersAre (2 ∷ 1 ∷ []) ∷ [])

-- ---- the clause for a locked solvable watches the root, but not that solvable, which none of its literals names

abbrev pub LockWatches : Type 0
LockWatches =
    Gives two_versions
    (Variable 0 ∷ Variable 1 ∷ Lock 1 2 ∷ Watchers (Neg 0) ∷ Rewatch 0 (Neg 0) (Neg 1) ∷ [])
    (VariableIs 1 ∷ VariableIs 2 ∷ ClauseIs 0 false ∷ WatchersAre (0 ∷ []) ∷ Refused BadWatch ∷ [])

-- ---- all of them

pub record Examples : Type 0 where
  pub two_packages : TwoPackages
  pub one_package : OnePackage
  pub satisfied_and_undone : SatisfiedAndUndone
  pub false_candidate : FalseCandidate
  pub no_candidates : NoCandidates
  pub first_falsified_of_scan : FirstFalsifiedOfScan
  pub conflict_flag : ConflictFlag
  pub set_twice : SetTwice
  pub two_packages_in_one : TwoPackagesInOne
  pub satisfied_after_root : SatisfiedAfterRoot
  pub falsified_after_root : FalsifiedAfterRoot
  pub no_candidates_after_root : NoCandidatesAfterRoot
  pub set_twice_after_root : SetTwiceAfterRoot
  pub handed_and_taken_back : HandedAndTakenBack
  pub handed_again : HandedAgain
  pub helpers_and_learnt : HelpersAndLearnt
  pub flags_of_pairs : FlagsOfPairs
  pub literals_of_kinds : LiteralsOfKinds
  pub requires_watches : RequiresWatches
  pub pair_watches : PairWatches
  pub moved_watches : MovedWatches
  pub signs_apart : SignsApart
  pub lock_watches : LockWatches
  pub score_and_count : ScoreAndCount
  pub late_score : LateScore
  pub score_alone : ScoreAlone
  pub count_alone : CountAlone
  pub root_protected : RootProtected
  pub others_replaced : OthersReplaced
  pub root_first : RootFirst
  pub others_after_root : OthersAfterRoot
  pub falsified_before_root : FalsifiedBeforeRoot
  pub scores_fall : ScoresFall
  pub rounded_down : RoundedDown
  pub either_setting : EitherSetting
  pub waits_for_condition : WaitsForCondition
  pub condition_opens : ConditionOpens
  pub empty_condition : EmptyCondition
  pub condition_literals : ConditionLiterals
  pub conditions_refused : ConditionsRefused
  pub unknown_conditions : UnknownConditions
  pub four_tracked : FourTracked
  pub four_tracked_literals : FourTrackedLiterals
  pub two_names : TwoNames
  pub favored_first : FavoredFirst
  pub favored_outside : FavoredOutside
  pub count_of_one_set : CountOfOneSet
  pub better_offer : BetterOffer
  pub equal_count : EqualCount
  pub equal_score : EqualScore
  pub root_stays : RootStays
  pub best_so_far : BestSoFar
  pub root_alone : RootAlone
  pub others_by_score : OthersByScore
  pub root_replaces : RootReplaces
  pub first_without_scores : FirstWithoutScores
  pub saturations : SaturationExamples
