-- What a clause of some literals says under the values of variables: whether it is false, and whether it is unit;
-- entries of the trail that clauses imply one after another; and when no clause says anything more.
use Rattle.std.specs.Prelude.{◌≡◌, ℕ, ◌<◌, ⊤, Bool, true, false, ◌&&◌, ◌||◌, if◌then◌else◌, List, [], ◌∷◌, ◌++◌}
use Rattle.std.specs.List.{list_all}
use Rattle.decisions.specs.Literals.{Lit, Pos, Neg, Values, truth, undecided, is_false_literal}
use Rattle.decisions.specs.declared.decision.Decision.{Decision}
use Rattle.decisions.specs.Trail.{Entry, val}
use Rattle.clauses.specs.Clauses.{same_literal}
use Rattle.watch_map.specs.Watching.{is_literal_in}

-- ---- one clause

-- whether a clause of these literals is false: all of them are
abbrev pub is_false : Values → List Lit → Bool
is_false now literals = list_all (is_false_literal now) literals

-- whether each literal other than this one is false
abbrev pub are_others_false : Values → List Lit → Lit → Bool
are_others_false now literals l = list_all (λ m. same_literal m l || is_false_literal now m) literals

-- whether a clause of these literals is unit with this one left: it is undecided, and each other one is false
abbrev pub is_unit : Values → List Lit → Lit → Bool
is_unit now literals l = is_literal_in l literals && (undecided (truth now l) && are_others_false now literals l)

-- a clause of these literals is neither false nor unit
abbrev pub IsSettled : Values → List Lit → Type 0
IsSettled now literals = (is_false now literals ≡ false) × ((l : Lit) → is_unit now literals l ≡ false)

-- ---- entries that clauses of these literals, by their ids, imply

-- the literal that a decision makes true
abbrev pub decided_literal : Decision → Lit
decided_literal d = if d.value then Pos d.variable else Neg d.variable

module _ (literals : ℕ → List Lit) (level : ℕ) where
  -- an entry at the level: its clause is unit under the entries before it, and the entry makes its last literal true
  pub record IsImplied (before : List Entry) (e : Entry) : Type 0 where
    pub implied : is_unit (val before) (literals e.decision.derived_from) (decided_literal e.decision) ≡ true
    pub at_level : e.level ≡ level

  -- entries of which each is implied under those before it
  abbrev pub AreImplied : List Entry → List Entry → Type 0
  AreImplied before [] = ⊤
  AreImplied before (e ∷ es) = IsImplied before e × AreImplied (before ++ e ∷ []) es

-- ---- all clauses with ids below a bound

-- none of them is false, and none is unit
abbrev pub AreSettled : (ℕ → List Lit) → ℕ → Values → Type 0
AreSettled literals clauses now = (c : ℕ) → c < clauses → IsSettled now (literals c)

-- this is one of them, and it is false
abbrev pub IsConflict : (ℕ → List Lit) → ℕ → Values → ℕ → Type 0
IsConflict literals clauses now c = (c < clauses) × (is_false now (literals c) ≡ true)
