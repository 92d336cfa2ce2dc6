-- At most one of a list of variables: clauses that tie each variable to each helper by a bit of the variable's number.
use Rattle.std.specs.Prelude.{◌≡◌, ◌↔◌, ℕ, ◌-◌, ◌*◌, ◌^◌, ◌<◌, ◌≤◌, Bool, true, false, not, ◌&&◌}
use Rattle.std.specs.Prelude.{◌||◌, nat_eq, nat_lt, List, [], ◌∷◌, ◌++◌, map, length, Option}
use Rattle.std.specs.Prelude.{Some, None, is_some, IsTrue, Contains, IfSome, if◌then◌else◌}
use Rattle.std.specs.List.{list_any, AllByRecursion, enumerate_from}
use Rattle.std.specs.Bool.{beq}
use Rattle.std.specs.Int.{bit_at}

-- ---- a tracker, and the clauses of what is added to it

-- the tracked variables and the helpers, each in the order in which they came
pub record Tracker (V : Type 0) : Type 0 where
  pub variables : List V
  pub helpers : List V

-- a tracker, and for how many more variables, and for how many more helpers, there is room
pub record TrackerState (V : Type 0) : Type 0 where
  pub tracker : Tracker V
  pub variable_room : ℕ
  pub helper_room : ℕ

-- there is room for one more variable, and for a helper where one comes with it
pub record HasRoom {V : Type 0} (state : TrackerState V) (with_helper : Bool) : Type 0 where
  pub variable : 0 < state.variable_room
  pub helper : IsTrue with_helper → 0 < state.helper_room

-- no room is lost
abbrev pub KeepsRoom : {V : Type 0} → TrackerState V → TrackerState V → Type 0
KeepsRoom old new = (with_helper : Bool) → HasRoom old with_helper → HasRoom new with_helper

-- a clause of a variable x and a helper h: "not x or h" where the third part is true, "not x or not h" where it is
-- false
abbrev pub BitClause : Type 0 → Type 0
BitClause V = V × V × Bool

-- whether bit b of the number i is 1
abbrev pub has_bit : ℕ → ℕ → Bool
has_bit i b = nat_eq (bit_at i b) 1

abbrev pub empty : {V : Type 0} → Tracker V
empty = record { variables = []; helpers = [] }

-- whether a variable is equal to a tracked one
abbrev pub is_tracked : {V : Type 0} → (V → V → Bool) → Tracker V → V → Bool
is_tracked same t v = list_any (same v) t.variables

-- one variable more needs one helper more: some are tracked, and they are more than 2 ^ k - 1 for k helpers
abbrev pub is_full : {V : Type 0} → Tracker V → Bool
is_full t = nat_lt 0 (length t.variables) && nat_lt (2 ^ length t.helpers - 1) (length t.variables)

-- whether this variable needs one
abbrev pub needs_helper : {V : Type 0} → (V → V → Bool) → Tracker V → V → Bool
needs_helper same t v = not (is_tracked same t v) && is_full t

-- the clauses of helper number b with each variable, in order
abbrev pub helper_clauses : {V : Type 0} → ℕ → V → List V → List (BitClause V)
helper_clauses {V} b h xs = map (λ (x : ℕ × V). (x.1, h, has_bit x.0 b)) (enumerate_from 0 xs)

-- the clauses of variable number i with each helper, in order
abbrev pub variable_clauses : {V : Type 0} → ℕ → V → List V → List (BitClause V)
variable_clauses {V} i v hs = map (λ (h : ℕ × V). (v, h.1, has_bit i h.0)) (enumerate_from 0 hs)

-- the helpers, with one more where one is given
abbrev pub with_helper : {V : Type 0} → List V → Option V → List V
with_helper hs None = hs
with_helper hs (Some h) = hs ++ h ∷ []

-- the clauses of a given helper with each variable that was there before
abbrev pub given_clauses : {V : Type 0} → Tracker V → Option V → List (BitClause V)
given_clauses t None = []
given_clauses t (Some h) = helper_clauses (length t.helpers) h t.variables

-- the clauses of a new variable: those of the helper that is given with it, then its own
abbrev pub new_clauses : {V : Type 0} → Tracker V → Option V → V → List (BitClause V)
new_clauses t h v = given_clauses t h ++ variable_clauses (length t.variables) v (with_helper t.helpers h)

-- the tracker with one variable more
abbrev pub with_new : {V : Type 0} → Tracker V → Option V → V → Tracker V
with_new t h v = record { variables = t.variables ++ v ∷ []; helpers = with_helper t.helpers h }

-- the clauses of a variable that is added: none of one that is tracked
abbrev pub clauses_for : {V : Type 0} → (V → V → Bool) → Tracker V → Option V → V → List (BitClause V)
clauses_for same t h v = if is_tracked same t v then [] else new_clauses t h v

-- the tracker after a variable is added: as before where it was tracked
abbrev pub with_variable : {V : Type 0} → (V → V → Bool) → Tracker V → Option V → V → Tracker V
with_variable same t h v = if is_tracked same t v then t else with_new t h v

-- ---- lists of additions

-- a value is equal to no tracked variable and to no helper
abbrev pub IsFresh : {V : Type 0} → (V → V → Bool) → Tracker V → V → Type 0
IsFresh same t v = (is_tracked same t v ≡ false) × (list_any (same v) t.helpers ≡ false)

-- what an addition asks: the variable is no helper, and a helper is given exactly where one is needed, and is fresh
pub record IsAllowed {V : Type 0} (same : V → V → Bool) (t : Tracker V) (h : Option V) (v : V) : Type 0 where
  pub no_helper : list_any (same v) t.helpers ≡ false
  pub needed : is_some h ≡ needs_helper same t v
  pub fresh : IfSome h (λ x. IsFresh same t x × (same x v ≡ false))

-- from an empty tracker a list of additions leads to this one, and appends these clauses
pub data Adds {V : Type 0} (same : V → V → Bool) : Tracker V → List (BitClause V) → Type 0 where
  none : Adds same empty []
  more : {t : Tracker V} {cs : List (BitClause V)} (h : Option V) (v : V) → Adds same t cs → IsAllowed same t h v →
      Adds same (with_variable same t h v) (cs ++ clauses_for same t h v)

-- ---- what the clauses say

-- a clause is satisfied: its variable is false, or its helper is what the bit says
abbrev pub is_satisfied : {V : Type 0} → (V → Bool) → BitClause V → Bool
is_satisfied a c = not (a c.0) || beq (a c.1) c.2

-- no two different variables of the list are true
abbrev pub AtMostOne : {V : Type 0} → (V → Bool) → List V → Type 0
AtMostOne {V} x vs = (v w : V) → Contains vs v → Contains vs w → x v ≡ true → x w ≡ true → v ≡ w

-- these truth values are the given ones but for the helpers
abbrev pub ChoosesHelpers : {V : Type 0} → (V → V → Bool) → List V → (V → Bool) → (V → Bool) → Type 0
ChoosesHelpers {V} same helpers given a = (v : V) → list_any (same v) helpers ≡ false → a v ≡ given v

-- k is the least number with n ≤ 2 ^ k
pub record IsLeastPower (k n : ℕ) : Type 0 where
  pub enough : n ≤ 2 ^ k
  pub least : (j : ℕ) → n ≤ 2 ^ j → k ≤ j

-- these truth values satisfy all clauses, where a test says whether they satisfy one
abbrev pub SatisfiesAll : {V C : Type 0} → ((V → Bool) → C → Bool) → (V → Bool) → List C → Type 0
SatisfiesAll satisfies a cs = AllByRecursion (λ c. satisfies a c ≡ true) cs

-- what clauses of any kind say
module _ {V C : Type 0} (same : V → V → Bool) (satisfies : (V → Bool) → C → Bool) where
  -- the clauses can be satisfied by choosing helpers, where all else has these values
  abbrev pub AreSatisfiable : (V → Bool) → List V → List C → Type 0
  AreSatisfiable x helpers cs = (a : V → Bool) × ChoosesHelpers same helpers x a × SatisfiesAll satisfies a cs

  -- the clauses say that at most one tracked variable is true
  pub record SaysAtMostOne (t : Tracker V) (cs : List C) : Type 0 where
    -- no tracked variable is a helper
    pub apart : (v : V) → Contains t.variables v → list_any (same v) t.helpers ≡ false
    -- the clauses can be satisfied by choosing helpers exactly when at most one tracked variable is true
    pub at_most_one : (x : V → Bool) → AreSatisfiable x t.helpers cs ↔ AtMostOne x t.variables
    -- n variables have k helpers and n * k clauses, k the least number with n ≤ 2 ^ k
    pub count : length cs ≡ length t.variables * length t.helpers
    pub least : IsLeastPower (length t.helpers) (length t.variables)

-- a tracker with all its clauses: a list of additions to an empty tracker leaves both
pub record IsEncoding {V : Type 0} (same : V → V → Bool) (t : Tracker V) (cs : List (BitClause V)) : Type 0 where
  pub adds : Adds same t cs
  pub says : SaysAtMostOne same is_satisfied t cs
