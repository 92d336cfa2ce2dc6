-- Conditions that are noted, by the indexes of their disjunctions: their clauses may not be queued yet.
use Rattle.std.specs.Prelude.{◌≡◌, ℕ, Bool, true, false, List, Option, Some, None, slice_get}
use Rattle.resolvo_queue.specs.Types.{is_eq, list_any, nat_cmp}
use Rattle.resolvo_queue.specs.Members.{Stands}

abbrev pub same_number : ℕ → ℕ → Bool
same_number a b = is_eq (nat_cmp a b)

abbrev pub is_noted : List ℕ → ℕ → Bool
is_noted noted d = list_any (same_number d) noted

-- a clause's condition is noted, if it has one
abbrev pub has_noted : List ℕ → Option ℕ → Bool
has_noted noted None = false
has_noted noted (Some d) = is_noted noted d

-- a condition is one of these
abbrev pub IsConditionOf : List ℕ → Option ℕ → Type 0
IsConditionOf ds None = ⊥
IsConditionOf ds (Some d) = Stands d ds

-- what was noted still is
abbrev pub KeepsNoted : (old now : List ℕ) → Type 0
KeepsNoted old now = (d : ℕ) → is_noted old d ≡ true → is_noted now d ≡ true

-- all of these are noted
abbrev pub AreNoted : List ℕ → List ℕ → Type 0
AreNoted ds noted = (d : ℕ) → Stands d ds → is_noted noted d ≡ true

-- what is flagged is noted
abbrev pub AreFlagged : (noted : List ℕ) → (flags : List Bool) → Type 0
AreFlagged noted flags = (d : ℕ) → slice_get flags d ≡ Some true → is_noted noted d ≡ true
