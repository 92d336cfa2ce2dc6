-- The floor of a trail is the least length since it was last taken.
use Rattle.std.proofs.Common.{◌≡◌, ℕ, suc, ◌≤◌, min, List, [], ◌∷◌, Some, ◌⊎◌, inl, inr, sym, ap, refl, ◌∙◌, arith}
use Rattle.std.proofs.Common.{length, length-append}
use Rattle.std.specs.Prelude.{slice_get}
use Rattle.std.specs.List.{AllByRecursion}
use Rattle.std.proofs.lemmas.List.Elements.{All-from_recursion}
use Rattle.std.proofs.lemmas.Bool.{cases_lt}
use Rattle.decisions.specs.Trail.{Entry, Trail, cut_to}
use Rattle.decisions.specs.Floor.{Change, Push, UndoLast, UndoUntil, Clear, Propagate, changed, after_all, lengths}
use Rattle.decisions.specs.Floor.{FloorIsLeast}

-- the present length is the first
lengths-first : (t : Trail) (cs : List Change) → slice_get (lengths t cs) 0 ≡ Some (length t.entries)
lengths-first t [] = refl
lengths-first t (c ∷ cs) = refl

-- one of two numbers is the smaller one
min_is_one : (a b : ℕ) → (min a b ≡ a) ⊎ (min a b ≡ b)
min_is_one a b = elim (cases_lt a b) [ inl l ↦ inl (omega arith) | inr l ↦ inr (omega arith) ]

-- a change leaves a floor that is neither above the one before nor above the new length, and is one of the two
record IsFloorOf (old new : Trail) : Type 0 where
  not_above : new.floor ≤ old.floor
  within : new.floor ≤ length new.entries
  one : (new.floor ≡ old.floor) ⊎ (new.floor ≡ length new.entries)

floor-cut_to : (t : Trail) (kept : List Entry) → IsFloorOf t (cut_to t kept)
floor-cut_to t kept = record {
  not_above = omega arith;
  within = omega arith;
  one = min_is_one t.floor (length kept);
}

floor-changed : (t : Trail) (c : Change) → t.floor ≤ length t.entries → IsFloorOf t (changed t c)
floor-changed t (Push e) h =
    record { not_above = omega arith; within = omega (arith, length-append t.entries (e ∷ [])); one = inl refl }
floor-changed t UndoLast h = floor-cut_to t _
floor-changed t (UndoUntil l) h = floor-cut_to t _
floor-changed t Clear h = record { not_above = omega arith; within = omega arith; one = inr refl }
floor-changed t Propagate h = record { not_above = omega arith; within = h; one = inl refl }

-- r is the floor or one of the lengths, and above none of them
record IsLowest (r floor : ℕ) (ns : List ℕ) : Type 0 where
  not_above : r ≤ floor
  below : AllByRecursion (λ n. r ≤ n) ns
  one : (r ≡ floor) ⊎ ((i : ℕ) × (slice_get ns i ≡ Some r))

-- so it is with one more change in front
lowest_before : (r : ℕ) (t : Trail) (c : Change) (cs : List Change) → t.floor ≤ length t.entries
    → IsFloorOf t (changed t c) → IsLowest r (changed t c).floor (lengths (changed t c) cs)
    → IsLowest r t.floor (length t.entries ∷ lengths (changed t c) cs)
lowest_before r t c cs h step rest =
    let down : r ≤ t.floor = omega (arith, step.not_above, rest.not_above) in
    let first : r ≡ length (changed t c).entries → (i : ℕ)
    × (slice_get (length t.entries ∷ lengths (changed t c) cs) i ≡ Some r) =
    λ e. (1, lengths-first (changed t c) cs ∙ ap Some (sym e)) in
    record {
      not_above = down;
      below = (omega arith, rest.below);
      one = elim rest.one [
        | inl e ↦ elim step.one [ inl f ↦ inl (e ∙ f) | inr f ↦ inr (first (e ∙ f)) ]
        | inr p ↦ inr (suc p.0, p.1)
      ];
    }

-- after all changes the floor is
lowest : (t : Trail) (cs : List Change) → t.floor ≤ length t.entries →
    IsLowest (after_all t cs).floor t.floor (lengths t cs)
lowest t [] h = record { not_above = omega arith; below = (h, tt); one = inl refl }
lowest t (c ∷ cs) h =
    let step = floor-changed t c h in
    lowest_before (after_all (changed t c) cs).floor t c cs h step (lowest (changed t c) cs step.within)

pub floor_is_least : FloorIsLeast
floor_is_least t cs taken =
    let r = (after_all t cs).floor in
    let least = lowest t cs (omega (arith, taken)) in
    record {
      stands = elim least.one [
        | inl e ↦ (0, lengths-first t cs ∙ ap Some (sym (e ∙ taken)))
        | inr p ↦ p
      ];
      below = All-from_recursion (λ n. r ≤ n) (lengths t cs) least.below;
    }
