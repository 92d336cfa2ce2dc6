-- The law of a trail's floor: it is the least number of entries since it was last taken.
use Rattle.std.specs.Prelude.{◌≡◌, ℕ, ◌≤◌, List, [], ◌∷◌, length, slice_get, All, Some}
use Rattle.decisions.specs.Trail.{Entry, Trail, empty_trail, pushed, undo_last, undo_until, propagated}

-- what happens to a trail between two takes of its floor
pub data Change : Type 0 where
  Push : (e : Entry) → Change
  UndoLast : Change
  UndoUntil : (l : ℕ) → Change
  Clear : Change
  Propagate : Change

-- what a change leaves of the trail
abbrev pub changed : Trail → Change → Trail
changed t (Push e) = pushed t e
changed t UndoLast = undo_last t
changed t (UndoUntil l) = undo_until l t
changed t Clear = empty_trail
changed t Propagate = propagated t

-- what the changes leave of the trail, one after the other
abbrev pub after_all : Trail → List Change → Trail
after_all t [] = t
after_all t (c ∷ cs) = after_all (changed t c) cs

-- the lengths that the trail has over the changes, the present one first
abbrev pub lengths : Trail → List Change → List ℕ
lengths t [] = length t.entries ∷ []
lengths t (c ∷ cs) = length t.entries ∷ lengths (changed t c) cs

-- m is the least number of the list
pub record IsLeast (m : ℕ) (ns : List ℕ) : Type 0 where
  pub stands : (i : ℕ) × (slice_get ns i ≡ Some m)
  pub below : All (λ n. m ≤ n) ns

-- whatever happens to a trail whose floor is its length, as it is when the trail is new and when the floor was just
-- taken: the floor is the least length that the trail had
abbrev pub FloorIsLeast : Type 0
FloorIsLeast =
    (t : Trail) (cs : List Change) → t.floor ≡ length t.entries → IsLeast (after_all t cs).floor (lengths t cs)
