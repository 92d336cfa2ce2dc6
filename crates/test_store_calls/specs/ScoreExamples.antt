-- Worked examples of decisions by scores and counts, computed.
use Rattle.std.specs.Prelude.{◌≡◌, ℕ, ◌-◌, ◌^◌, Bool, true, false, ◌==◌, if◌then◌else◌, List, [], ◌∷◌, ◌++◌, Some, None}
use Rattle.resolvo_ids.specs.Types.StoreError.TheVariants.{BadFraction}
use Rattle.resolvo_clauses.specs.Literals.{Values}
use Rattle.resolvo_queue.specs.Rows.{Row, frontier}
use Rattle.resolvo_queue.specs.declared.offer.Offer.{Offer}
use Rattle.resolvo_queue.specs.Pick.{pick}
use Rattle.resolvo_store.specs.Command.{Command, Variable, Load, Requires, Root, Assign, Bump, Decay, Standard, Decide}
use Rattle.resolvo_store.specs.Command.{Reply, VariableIs, LoadedAs, ClauseIs, Assigned, Done, Falsified, Refused}
use Rattle.test_store_calls.specs.Script.{Packages}
use Rattle.test_store_calls.specs.ExampleWords.{Gives, solvable, range, set, single, decides_at, decides}

-- ---- a decision by score and count: a later clause is picked with a higher score and fewer candidates, at once or
-- once it
-- has its score

abbrev pub two_packages : Packages
two_packages =
    record {
      solvables = solvable 0 1 ∷ solvable 0 2 ∷ solvable 1 1 ∷ [];
      sets = range 0 1 3 ∷ range 1 1 2 ∷ [];
      unions = [];
      strings = 0;
    }

-- both packages are required for the root
abbrev pub requires_both : List (Command ℕ ℕ)
requires_both =
    Root ∷ Load (single 0) ∷ Load (single 1) ∷ Assign 0 true 0 1 ∷ Requires 0 (single 0) None ∷
    Requires 0 (single 1) None ∷ []

abbrev pub both_required : List Reply
both_required =
    ClauseIs 0 false ∷ LoadedAs ((1 ∷ 2 ∷ []) ∷ []) ∷ LoadedAs ((3 ∷ []) ∷ []) ∷ Assigned ∷ ClauseIs 1 false ∷
    ClauseIs 2 false ∷ []

abbrev pub ScoreAndCount : Type 0
ScoreAndCount =
    Gives two_packages (requires_both ++ Bump 1 5 ∷ Decide ∷ []) (both_required ++ Done ∷ decides_at 3 0 2 5 1 ∷ [])

abbrev pub LateScore : Type 0
LateScore =
    Gives two_packages (requires_both ++ Decide ∷ Bump 1 5 ∷ Decide ∷ [])
    (both_required ++ decides 1 0 1 2 ∷ Done ∷ decides_at 3 0 2 5 1 ∷ [])

-- ---- with as many candidates it isn't picked

abbrev pub ScoreAlone : Type 0
ScoreAlone =
    Gives (record {
      solvables = solvable 0 1 ∷ solvable 0 2 ∷ solvable 1 1 ∷ solvable 1 2 ∷ [];
      sets = range 0 1 3 ∷ range 1 1 3 ∷ [];
      unions = [];
      strings = 0;
    })
    (requires_both ++ Bump 1 5 ∷ Decide ∷ [])
    (ClauseIs 0 false ∷ LoadedAs ((1 ∷ 2 ∷ []) ∷ []) ∷ LoadedAs ((3 ∷ 4 ∷ []) ∷ []) ∷ Assigned ∷ ClauseIs 1 false ∷
    ClauseIs 2 false ∷
    Done ∷ decides 1 0 1 2 ∷ [])

-- ---- nor is it with fewer candidates and an equal score, until it has a higher one

abbrev pub CountAlone : Type 0
CountAlone =
    Gives two_packages (requires_both ++ Bump 0 5 ∷ Bump 1 5 ∷ Decide ∷ Bump 1 1 ∷ Decide ∷ [])
    (both_required ++ Done ∷ Done ∷ decides_at 1 0 1 5 2 ∷ Done ∷ decides_at 3 0 2 6 1 ∷ [])

-- ---- a clause of the root isn't beaten by one of another parent, but by one of the root

abbrev pub parent_and_two : Packages
parent_and_two = record {
  solvables = solvable 2 1 ∷ solvable 0 1 ∷ solvable 0 2 ∷ solvable 1 1 ∷ [];
  sets = range 0 1 3 ∷ range 1 1 2 ∷ [];
  unions = [];
  strings = 0;
}

abbrev pub RootProtected : Type 0
RootProtected =
    Gives parent_and_two
    (Root ∷ Variable 0 ∷ Load (single 0) ∷ Load (single 1) ∷ Requires 0 (single 0) None ∷ Requires 1 (single 1) None ∷
    Assign 0 true 0 1 ∷ Assign 1 true 0 1 ∷ Bump 1 5 ∷ Decide ∷ Requires 0 (single 1) None ∷ Decide ∷ [])
    (ClauseIs 0 false ∷ VariableIs 1 ∷ LoadedAs ((2 ∷ 3 ∷ []) ∷ []) ∷ LoadedAs ((4 ∷ []) ∷ []) ∷ ClauseIs 1 false ∷
    ClauseIs 2 false ∷
    Assigned ∷ Assigned ∷ Done ∷ decides 2 0 1 2 ∷ ClauseIs 3 false ∷ decides_at 4 0 3 5 1 ∷ [])

-- ---- while the root has no clause, one of another parent is beaten by one of the same parent; the root's is picked
-- once it comes

abbrev pub OthersReplaced : Type 0
OthersReplaced =
    Gives parent_and_two
    (Root ∷ Variable 0 ∷ Load (single 0) ∷ Load (single 1) ∷ Requires 1 (single 0) None ∷ Assign 0 true 0 1 ∷
    Assign 1 true 0 1 ∷
    Bump 1 5 ∷ Decide ∷ Requires 1 (single 1) None ∷ Decide ∷ Requires 0 (single 1) None ∷ Decide ∷ [])
    (ClauseIs 0 false ∷ VariableIs 1 ∷ LoadedAs ((2 ∷ 3 ∷ []) ∷ []) ∷ LoadedAs ((4 ∷ []) ∷ []) ∷ ClauseIs 1 false ∷
    Assigned ∷ Assigned ∷
    Done ∷ decides 2 1 1 2 ∷ ClauseIs 2 false ∷ decides_at 4 1 2 5 1 ∷ ClauseIs 3 false ∷ decides_at 4 0 3 5 1 ∷ [])

-- ---- a clause of the root comes first, wherever the root was registered; the others come once it is met

abbrev pub RootFirst : Type 0
RootFirst =
    Gives (record {
      solvables = solvable 0 1 ∷ solvable 1 1 ∷ solvable 2 1 ∷ [];
      sets = range 1 1 2 ∷ range 2 1 2 ∷ [];
      unions = [];
      strings = 0;
    })
    (Root ∷ Variable 0 ∷ Load (single 0) ∷ Load (single 1) ∷ Requires 1 (single 0) None ∷ Requires 0 (single 1) None ∷
    Assign 0 true 0 1 ∷ Assign 1 true 0 1 ∷ Bump 2 9 ∷ Decide ∷ [])
    (ClauseIs 0 false ∷ VariableIs 1 ∷ LoadedAs ((2 ∷ []) ∷ []) ∷ LoadedAs ((3 ∷ []) ∷ []) ∷ ClauseIs 1 false ∷
    ClauseIs 2 false ∷
    Assigned ∷ Assigned ∷ Done ∷ decides_at 3 0 2 9 1 ∷ [])

abbrev pub parent_one_and_two : Packages
parent_one_and_two = record {
  solvables = solvable 0 1 ∷ solvable 1 1 ∷ solvable 2 1 ∷ solvable 2 2 ∷ [];
  sets = range 1 1 2 ∷ range 2 1 3 ∷ [];
  unions = [];
  strings = 0;
}

abbrev pub OthersAfterRoot : Type 0
OthersAfterRoot =
    Gives parent_one_and_two
    (Root ∷ Variable 0 ∷ Load (single 0) ∷ Load (single 1) ∷ Requires 1 (single 0) None ∷ Requires 0 (single 1) None ∷
    Assign 0 true 0 1 ∷ Assign 1 true 0 1 ∷ Decide ∷ Bump 1 9 ∷ Decide ∷ Assign 3 true 0 2 ∷ Decide ∷ [])
    (ClauseIs 0 false ∷ VariableIs 1 ∷ LoadedAs ((2 ∷ []) ∷ []) ∷ LoadedAs ((3 ∷ 4 ∷ []) ∷ []) ∷ ClauseIs 1 false ∷
    ClauseIs 2 false ∷
    Assigned ∷ Assigned ∷ decides 3 0 2 2 ∷ Done ∷ decides 3 0 2 2 ∷ Assigned ∷ decides_at 2 1 1 9 1 ∷ [])

-- ---- of falsified clauses the first of the scan is named, also where it isn't the root's

abbrev pub FalsifiedBeforeRoot : Type 0
FalsifiedBeforeRoot =
    Gives parent_one_and_two
    (Root ∷ Variable 0 ∷ Load (single 0) ∷ Load (single 1) ∷ Requires 1 (single 0) None ∷ Requires 0 (single 1) None ∷
    Assign 0 true 0 1 ∷ Assign 1 true 0 1 ∷ Assign 2 false 0 1 ∷ Decide ∷ Assign 3 false 0 1 ∷
    Assign 4 false 0 1 ∷ Decide ∷ [])
    (ClauseIs 0 false ∷ VariableIs 1 ∷ LoadedAs ((2 ∷ []) ∷ []) ∷ LoadedAs ((3 ∷ 4 ∷ []) ∷ []) ∷ ClauseIs 1 false ∷
    ClauseIs 2 false ∷
    Assigned ∷ Assigned ∷ Assigned ∷ Falsified 1 ∷ Assigned ∷ Assigned ∷ Falsified 1 ∷ [])

-- ---- scores fall by a fraction, and are rounded down; they stay at the greatest one; a fraction is at most one, and
-- of
-- something

abbrev pub greatest : ℕ
greatest = 2 ^ 64 - 1

abbrev pub ScoresFall : Type 0
ScoresFall =
    Gives two_packages
    (requires_both ++ Bump 0 4 ∷ Bump 1 5 ∷ Decide ∷ Decay 1 2 ∷ Decide ∷ Bump 1 greatest ∷ Bump 1 greatest ∷ Decide ∷
    Decay 3 2 ∷ Decay 0 0 ∷ [])
    (both_required ++ Done ∷ Done ∷ decides_at 3 0 2 5 1 ∷ Done ∷ decides_at 1 0 1 2 2 ∷ Done ∷ Done ∷
    decides_at 3 0 2 greatest 1 ∷
    Refused BadFraction ∷ Refused BadFraction ∷ [])

abbrev pub RoundedDown : Type 0
RoundedDown =
    Gives two_packages
    (requires_both ++ Bump 1 7 ∷ Decay 2 3 ∷ Decide ∷ Decay 4 4 ∷ Decide ∷ Decay 3 4 ∷ Decide ∷ Decay 1 2 ∷ Decide ∷
    Decay 1 2 ∷ Decide ∷
    Bump 1 greatest ∷ Decay (2 ^ 64 - 2) greatest ∷ Decide ∷ Decay 0 1 ∷ Decide ∷ [])
    (both_required ++ Done ∷ Done ∷ decides_at 3 0 2 4 1 ∷ Done ∷ decides_at 3 0 2 4 1 ∷ Done ∷ decides_at 3 0 2 3 1 ∷
    Done ∷ decides_at 3 0 2 1 1 ∷
    Done ∷ decides 1 0 1 2 ∷ Done ∷ Done ∷ decides_at 3 0 2 (2 ^ 64 - 2) 1 ∷ Done ∷ decides 1 0 1 2 ∷ [])

-- ---- both settings answer alike

abbrev pub EitherSetting : Type 0
EitherSetting =
    Gives two_packages (requires_both ++ Standard false ∷ Bump 1 5 ∷ Decide ∷ Standard true ∷ Decide ∷ [])
    (both_required ++ Done ∷ Done ∷ decides_at 3 0 2 5 1 ∷ Done ∷ decides_at 3 0 2 5 1 ∷ [])

-- ---- parts of the rule by themselves

-- one value for some variables, none for the others
abbrev pub values_of : List (ℕ × Bool) → Values
values_of [] v = None
values_of (x ∷ xs) v = if x.0 == v then Some x.1 else values_of xs v

abbrev pub row : ℕ → ℕ → Row
row v variable = record { set = set v; variable = variable }

-- a frontier counts the undecided rows of its own version set, each as often as it stands there
abbrev pub CountOfOneSet : Type 0
CountOfOneSet =
    frontier (values_of ((1, false) ∷ [])) (row 0 1 ∷ row 1 2 ∷ row 1 3 ∷ row 0 2 ∷ row 1 3 ∷ [])
    ≡ Some (record { variable = 2; set = set 1; count = 3 })

abbrev pub offer_of : ℕ → ℕ → ℕ → ℕ → Offer
offer_of parent clause score count = record {
  clause = record { parent = parent; requirement = single 0; condition = None; clause_id = clause };
  frontier = record { variable = 9; set = set 0; count = count };
  score = score;
}

-- a later offer replaces the best only with a higher score and a smaller count, and those of the root come before all
-- others
abbrev pub Picks : List Offer → Offer → Type 0
Picks offers best = pick offers ≡ Some best

abbrev pub BetterOffer : Type 0
BetterOffer = Picks (offer_of 0 0 0 2 ∷ offer_of 0 1 5 1 ∷ []) (offer_of 0 1 5 1)

abbrev pub EqualCount : Type 0
EqualCount = Picks (offer_of 0 0 0 2 ∷ offer_of 0 1 5 2 ∷ []) (offer_of 0 0 0 2)

abbrev pub EqualScore : Type 0
EqualScore = Picks (offer_of 0 0 5 2 ∷ offer_of 0 1 5 1 ∷ []) (offer_of 0 0 5 2)

abbrev pub RootStays : Type 0
RootStays = Picks (offer_of 0 0 0 2 ∷ offer_of 1 1 5 1 ∷ []) (offer_of 0 0 0 2)

-- each is compared with the best before it, and not with the first
abbrev pub BestSoFar : Type 0
BestSoFar = Picks (offer_of 0 0 0 3 ∷ offer_of 0 1 5 2 ∷ offer_of 0 2 3 1 ∷ []) (offer_of 0 1 5 2)

-- of the root's alone one is picked, by score and count, whatever the others have
abbrev pub RootAlone : Type 0
RootAlone = Picks (offer_of 1 0 9 1 ∷ offer_of 0 1 0 3 ∷ offer_of 0 2 5 2 ∷ []) (offer_of 0 2 5 2)

-- without one of the root, one of the others, of whatever parent
abbrev pub OthersByScore : Type 0
OthersByScore = Picks (offer_of 1 0 0 3 ∷ offer_of 2 1 5 1 ∷ []) (offer_of 2 1 5 1)

-- no offer of another parent replaces the root's, before it or behind
abbrev pub RootReplaces : Type 0
RootReplaces = Picks (offer_of 1 0 0 3 ∷ offer_of 0 1 5 2 ∷ offer_of 1 2 9 1 ∷ []) (offer_of 0 1 5 2)

-- without scores the first stays, whatever the counts
abbrev pub FirstWithoutScores : Type 0
FirstWithoutScores = Picks (offer_of 1 0 0 3 ∷ offer_of 1 1 0 1 ∷ offer_of 2 2 0 2 ∷ []) (offer_of 1 0 0 3)
