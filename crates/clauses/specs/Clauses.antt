-- The literals of each kind of clause, the two that a new one watches, and whether it is a conflict.
use Rattle.std.specs.Prelude.{ℕ, ◌-◌, Bool, true, false, not, ◌&&◌, ◌==◌, if◌then◌else◌, List, [], ◌∷◌}
use Rattle.std.specs.Prelude.{◌++◌, map, flat_map, find, length, slice_get, Option, Some, None, unwrap_or}
use Rattle.std.specs.List.{list_all}
use Rattle.std.specs.Option.{option_map_or}
use Rattle.decisions.specs.Literals.{Lit, Pos, Neg, Values, known_true, known_false, is_false_literal}
use Rattle.providers.specs.declared.requirement.Requirement.{Requirement}
use Rattle.clauses.specs.declared.clause.Clause.{Clause}
use Rattle.clauses.specs.declared.clause.Clause.TheVariants.{InstallRoot, Requires, ForbidMultipleInstances}
use Rattle.clauses.specs.declared.clause.Clause.TheVariants.{Constrains, ConstrainsExcluded}
use Rattle.clauses.specs.declared.clause.Clause.TheVariants.{ConstrainsParent, Lock, Learnt, Excluded, AnyOf}

-- what clauses refer to by ids
pub record StoredLiterals : Type 0 where
  -- the literals of the learnt clauses
  pub learnt : List (List Lit)
  -- the variables of each requirement's candidates, one list a version set; no list where it wasn't loaded
  pub lists : Requirement → List (List ℕ)
  -- the literals of the disjunctions
  pub disjunctions : List (List Lit)

-- the literals of a disjunction; none without one
abbrev pub condition_literals : StoredLiterals → Option ℕ → List Lit
condition_literals k None = []
condition_literals k (Some d) = unwrap_or (slice_get k.disjunctions d) []

-- literals, and then those of candidates in lists
abbrev pub required_literals : List Lit → List (List ℕ) → List Lit
required_literals literals lists = literals ++ flat_map (map Pos) lists

-- the literals of a requires clause but its parent's: those of its disjunction, and then its candidates
abbrev pub other_literals : StoredLiterals → Option ℕ → Requirement → List Lit
other_literals k d r = required_literals (condition_literals k d) (k.lists r)

-- the literals of a learnt clause
abbrev pub learnt_literals : StoredLiterals → ℕ → List Lit
learnt_literals k id = unwrap_or (slice_get k.learnt id) []

-- the literals of a clause, in order
abbrev pub literals_of : {N : Type 0} → StoredLiterals → Clause N → List Lit
literals_of k InstallRoot = Pos 0 ∷ []
literals_of k (Requires parent d r) = Neg parent ∷ other_literals k d r
literals_of k (ForbidMultipleInstances a l n) = Neg a ∷ l ∷ []
literals_of k (Constrains a b v) = Neg a ∷ Neg b ∷ []
literals_of k (ConstrainsExcluded a aux v) = Neg a ∷ Pos aux ∷ []
literals_of k (ConstrainsParent a aux v) = Neg a ∷ Neg aux ∷ []
literals_of k (Lock locked other) = Neg other ∷ Neg 0 ∷ []
literals_of k (Learnt id) = learnt_literals k id
literals_of k (Excluded a reason) = Neg a ∷ []
literals_of k (AnyOf selected other) = Pos selected ∷ Neg other ∷ []

-- the literals of a clause that are stored by an id
abbrev pub stored_literals : {N : Type 0} → StoredLiterals → Clause N → List Lit
stored_literals k (Requires parent d r) = condition_literals k d
stored_literals k (Learnt id) = learnt_literals k id
stored_literals k _ = []

-- the lists of a clause's candidates
abbrev pub stored_lists : {N : Type 0} → StoredLiterals → Clause N → List (List ℕ)
stored_lists k (Requires parent d r) = k.lists r
stored_lists k _ = []

-- whether the kind has two literals
abbrev pub is_binary : {N : Type 0} → Clause N → Bool
is_binary (ForbidMultipleInstances a l n) = true
is_binary (Constrains a b v) = true
is_binary (ConstrainsExcluded a aux v) = true
is_binary (ConstrainsParent a aux v) = true
is_binary (Lock locked other) = true
is_binary (AnyOf selected other) = true
is_binary _ = false

-- whether they are one literal
abbrev pub same_literal : Lit → Lit → Bool
same_literal (Pos v) (Pos w) = v == w
same_literal (Neg v) (Neg w) = v == w
same_literal _ _ = false

-- two literals as watches; equal ones are none
abbrev pub watch_pair : Lit → Lit → Option (List Lit)
watch_pair l m = if same_literal l m then None else Some (l ∷ m ∷ [])

-- a literal beside another, if there is one
abbrev pub watch_beside : Lit → Option Lit → Option (List Lit)
watch_beside l None = None
watch_beside l (Some m) = watch_pair l m

-- the first literal that isn't false, or the first of all where all are
abbrev pub first_not_false : Values → List Lit → Option Lit
first_not_false val [] = None
first_not_false val (l ∷ ls) = Some (unwrap_or (find (λ x. not (is_false_literal val x)) (l ∷ ls)) l)

-- the first and the last literal; none of a list with one
abbrev pub watch_ends : List Lit → Option (List Lit)
watch_ends [] = None
watch_ends (l ∷ ls) = watch_beside l (slice_get (l ∷ ls) (length ls))

-- what a new clause watches
abbrev pub first_watches : {N : Type 0} → StoredLiterals → Values → Clause N → Option (List Lit)
first_watches k val InstallRoot = None
first_watches k val (Requires parent d r) = watch_beside (Neg parent) (first_not_false val (other_literals k d r))
first_watches k val (ForbidMultipleInstances a l n) = watch_pair (Neg a) l
first_watches k val (Constrains a b v) = watch_pair (Neg a) (Neg b)
first_watches k val (ConstrainsExcluded a aux v) = watch_pair (Neg a) (Pos aux)
first_watches k val (ConstrainsParent a aux v) = watch_pair (Neg a) (Neg aux)
first_watches k val (Lock locked other) = watch_pair (Neg 0) (Neg other)
first_watches k val (Learnt id) = watch_ends (learnt_literals k id)
first_watches k val (Excluded a reason) = None
first_watches k val (AnyOf selected other) = watch_pair (Pos selected) (Neg other)

-- whether all these literals are false, and the parent isn't: where there are some
abbrev pub conflicts_with_parent : Values → ℕ → List Lit → Bool
conflicts_with_parent val parent [] = false
conflicts_with_parent val parent (l ∷ ls) = list_all (is_false_literal val) (l ∷ ls) && not (known_false (val parent))

-- whether a new clause is a conflict: only its first literal can satisfy it, and that isn't true yet
abbrev pub is_conflict : {N : Type 0} → StoredLiterals → Values → Clause N → Bool
is_conflict k val (Requires parent d r) = conflicts_with_parent val parent (other_literals k d r)
is_conflict k val (Constrains a b v) = known_true (val b) && not (known_false (val a))
is_conflict k val (ConstrainsParent a aux v) = known_true (val aux) && not (known_false (val a))
is_conflict k val _ = false

-- whether it is the watch beside the one at the index
abbrev pub is_other_watch : List Lit → ℕ → Lit → Bool
is_other_watch watches index l = option_map_or (same_literal l) (slice_get watches (1 - index)) false

-- what a clause may watch in place of the watch at the index: its first literal that isn't the other watch and isn't
-- false; none for a binary clause
abbrev pub next_unwatched : {N : Type 0} → StoredLiterals → Values → Clause N → List Lit → ℕ → Option Lit
next_unwatched k val clause watches index =
    if is_binary clause then None
    else find (λ l. not (is_other_watch watches index l) && not (is_false_literal val l)) (literals_of k clause)
