-- Sets of places of a list, as marks: a place is in the set if its mark is true.
use Rattle.std.specs.Prelude.{◌≡◌, ℕ, Bool, true, false, cond, All, List, [], ◌∷◌, count_by, slice_index_or}
use Rattle.std.specs.declared.vec.Vec.{Vec}

-- the place is in the set
abbrev pub is_marked : List Bool → ℕ → Bool
is_marked marks place = slice_index_or marks place false

-- how many places are in the set
abbrev pub size : List Bool → ℕ
size marks = count_by (λ mark. mark) marks

-- the elements whose places aren't in the set
abbrev pub kept : {X : Type 0} → List Bool → List X → List X
kept [] xs = xs
kept (mark ∷ marks) [] = []
kept (mark ∷ marks) (x ∷ xs) = cond mark (kept marks xs) (x ∷ kept marks xs)

-- the second set has each place of the first
abbrev pub IsWithin : List Bool → List Bool → Type 0
IsWithin few many = (place : ℕ) → is_marked few place ≡ true → is_marked many place ≡ true

-- no place is in both
abbrev pub AreApart : List Bool → List Bool → Type 0
AreApart one other = (place : ℕ) → is_marked one place ≡ true → is_marked other place ≡ false

-- none of the sets is within this one
abbrev pub HasNone : {A : Type 0} → List Bool → List (Vec Bool A) → Type 0
HasNone marks sets = All (λ set. IsWithin set.items marks → ⊥) sets

-- what has none of the new sets within it has none of the old ones, and not this set with the place
abbrev pub ExtendsAt : {A : Type 0} → List (Vec Bool A) → List (Vec Bool A) → List Bool → ℕ → Type 0
ExtendsAt old new marks place = (other : List Bool) → HasNone other new →
    HasNone other old × (IsWithin marks other → is_marked other place ≡ false)

-- what has none of the new sets within it has none of the old ones, and not this set with a place of the conflict
abbrev pub Extends : {A : Type 0} → List (Vec Bool A) → List (Vec Bool A) → List Bool → List Bool → Type 0
Extends old new marks conflict = (other : List Bool) → HasNone other new →
    HasNone other old × (IsWithin marks other → AreApart conflict other)
