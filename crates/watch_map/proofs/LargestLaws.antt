-- The largest variable of clauses: where there is room for its literals, there is room for those of all.
use Rattle.std.proofs.Common.{◌≡◌, ℕ, zero, suc, ◌+◌, ◌<◌, ◌≤◌, Bool, true, false, ◌||◌, cond, List, [], ◌∷◌}
use Rattle.std.proofs.Common.{Some, None, length, take, get_or, refl, sym, ap, subst, ◌∙◌, arith}
use Rattle.std.specs.Prelude.{if◌then◌else◌, Result, Ok, Err}
use Rattle.std.proofs.lemmas.List.Sums.{fold_more}
use Rattle.watch_map.proofs.Words.{All, bit_watches, fold, HasRoom, HaveRooms, helper_literal, is_literal_in}
use Rattle.watch_map.proofs.Words.{larger_variable, largest_variable, Lit, Neg, OnOk, Pos, same_literal, StoreError}
use Rattle.watch_map.proofs.Words.{two_or_none, variable_of, watch_pair, WatchLists}
use Rattle.watch_map.proofs.WatchingLaws.{same_is}

-- ---- the largest

no_smaller : (bits : List (ℕ × ℕ × Bool)) (least : ℕ) → least ≤ fold larger_variable least bits
no_smaller [] least = omega arith
no_smaller (bit ∷ bits) least = let more = no_smaller bits (larger_variable least bit) in omega (arith, more)

pub largest_at : (bits : List (ℕ × ℕ × Bool)) (least k : ℕ) (d : ℕ × ℕ × Bool) → k < length bits
    → ((get_or bits k d).0 ≤ fold larger_variable least bits) × ((get_or bits k d).1 ≤ fold larger_variable least bits)
largest_at [] least k d within = absurd (omega (arith, within))
largest_at (bit ∷ bits) least zero d within =
    let more = no_smaller bits (larger_variable least bit) in (omega (arith, more), omega (arith, more))
largest_at (bit ∷ bits) least (suc k) d within = largest_at bits (larger_variable least bit) k d (omega (arith, within))

-- ---- room

room_below : (map : WatchLists) (l : Lit) (n largest : ℕ) → variable_of l ≤ largest → HasRoom map (Neg largest) n
    → HasRoom map l n
unfolding HasRoom
room_below map (Pos v) n largest below room = omega (arith, below, room)
room_below map (Neg v) n largest below room = omega (arith, below, room)

in_pair : (a b l : Lit) (P : Lit → Type 0) → P a → P b → is_literal_in l (two_or_none (watch_pair a b)) ≡ true → P l
in_pair a b l P at_a at_b = go (same_literal a b)
  where
    in_two : (s : Bool) → same_literal l a ≡ s → (t : Bool) → same_literal l b ≡ t → (s || (t || false)) ≡ true → P l
    in_two true e t h m = subst P (sym (same_is l a e)) at_a
    in_two false e true h m = subst P (sym (same_is l b h)) at_b
    in_two false e false h m = absurd (let z : false ≡ true = m in cc)

    go : (s : Bool) → is_literal_in l (two_or_none (cond s None (Some (a ∷ b ∷ [])))) ≡ true → P l
    go true m = absurd (let z : false ≡ true = m in cc)
    go false m = in_two (same_literal l a) refl (same_literal l b) refl m

variable_of_sign : (x : ℕ) (positive : Bool) → variable_of (if positive then Pos x else Neg x) ≡ x
variable_of_sign x true = refl
variable_of_sign x false = refl

pub rooms_below : (map : WatchLists) (n largest : ℕ) (bit : ℕ × ℕ × Bool) → bit.0 ≤ largest → bit.1 ≤ largest
    → HasRoom map (Neg largest) n → HaveRooms map n (two_or_none (bit_watches bit))
rooms_below map n largest bit first second room l =
    in_pair (Neg bit.0) (helper_literal bit) l (λ z. HasRoom map z n)
    (room_below map (Neg bit.0) n largest first room)
    (room_below map (helper_literal bit) n largest (subst (λ x. x ≤ largest)
    (sym (variable_of_sign bit.1 bit.2)) second) room)

pub rooms_for_all : (result : Result (Unit {0}) StoreError) (map : WatchLists) (l : Lit) (n largest : ℕ)
    (bits : List (ℕ × ℕ × Bool)) → l ≡ Neg largest → largest ≡ largest_variable bits → OnOk result (HasRoom map l n)
    → OnOk result (All (λ bit. HaveRooms map n (two_or_none (bit_watches bit))) bits)
rooms_for_all (Ok u) map l n largest bits is is_largest room = λ k d within.
    let below = largest_at bits 0 k d within in
    rooms_below map n (largest_variable bits) (get_or bits k d) below.0 below.1
    (subst (λ z. HasRoom map z n) (is ∙ ap Neg is_largest) room)
rooms_for_all (Err e) map l n largest bits is is_largest room = tt
