-- What a trail is with an entry added or taken back.
use Rattle.std.specs.Prelude.{◌≡◌, ◌≢◌, ℕ, ◌<◌, ◌≤◌, ◌-◌, ◌==◌, nat_lt, if◌then◌else◌}
use Rattle.std.specs.Prelude.{Bool, true, false, refl, List, [], ◌∷◌, ◌++◌, length, take, slice_get, All, Option}
use Rattle.std.specs.Prelude.{Some, None}
use Rattle.std.proofs.Common.{arith, ap, length-append, get_or, ◌⊎◌, inl, inr}
use Rattle.std.proofs.Math.Bool.{and-true, and-false}
use Rattle.std.proofs.Math.Seq.{take-append_seam, get_or-append_seam}
use Rattle.std.proofs.lemmas.List.Elements.{All-push, All-take}
use Rattle.std.proofs.lemmas.Bool.{eqb-false, lt-ltb, le-ltb}
use Rattle.std.proofs.lemmas.List.Folds.{list_all-append}
use Rattle.std.proofs.lemmas.Bool.Decides.{nat_tests}
use Rattle.decisions.specs.Trail.{Entry, Trail, val, top_level, entries_until, IsOnce, HasLevel, IsTrail, IsWithin}
use Rattle.decisions.specs.Trail.{empty_trail}

-- a test that gives no value failed
none_by_test : {X : Type 0} (b : Bool) (y : X) (o : Option X) → (if b then Some y else o) ≡ None
    → (b ≡ false) × (o ≡ None)
none_by_test true y o none = cc
none_by_test false y o none = (refl, none)

-- values that give a variable none have no entry of it at their head, and none after it
pub none_by_variable : {X : Type 0} (v x : ℕ) (y : X) (o : Option X) → (if v == x then Some y else o) ≡ None
    → (v ≢ x) × (o ≡ None)
none_by_variable v x y o none =
    let test = none_by_test (v == x) y o none in
    (eqb-false v x test.0, test.1)

-- two entries of different variables may change places
swap_variables : {X : Type 0} (v w x : ℕ) (y z o : X) → v ≢ w
    → (if v == x then y else if w == x then z else o) ≡ (if w == x then z else if v == x then y else o)
swap_variables v w x y z o apart = grind (arith, nat_tests)

-- the values with an entry added
pub val-push : (es : List Entry) (e : Entry) (x : ℕ) → val es e.decision.variable ≡ None
    → val (es ++ e ∷ []) x ≡ (if e.decision.variable == x then Some e.decision.value else val es x)
val-push [] e x none = refl
val-push (f ∷ es) e x none =
    let apart = none_by_variable f.decision.variable e.decision.variable _ (val es e.decision.variable) none in
    rw (val-push es e x apart.1) (swap_variables f.decision.variable e.decision.variable x _ _ _ apart.0)

-- an entry of a variable without one may be added
pub IsOnce-push : (es : List Entry) (e : Entry) → IsOnce es → val es e.decision.variable ≡ None → IsOnce (es ++ e ∷ [])
IsOnce-push [] e once none = (refl, tt)
IsOnce-push (f ∷ es) e once none =
    let apart = none_by_variable f.decision.variable e.decision.variable _ (val es e.decision.variable) none in
    (rw (val-push es e f.decision.variable apart.1) (grind (arith, nat_tests)), IsOnce-push es e once.1 apart.1)

-- the trail without its newest entry has none of that variable
pub IsOnce-pop : (es : List Entry) (e : Entry) → IsOnce (es ++ e ∷ []) → IsOnce es × (val es e.decision.variable ≡ None)
IsOnce-pop [] e once = (tt, refl)
IsOnce-pop (f ∷ es) e once =
    let rest = IsOnce-pop es e once.1 in
    let none = rw (val-push es e f.decision.variable rest.1) at once.0 in
    let apart = none_by_variable e.decision.variable f.decision.variable _ (val es f.decision.variable) none in
    ((apart.1, rest.0), grind (arith, nat_tests))

-- a trail with an entry added is a trail
pub IsTrail-push : (es : List Entry) (e : Entry) → IsTrail es → val es e.decision.variable ≡ None → HasLevel e
    → IsTrail (es ++ e ∷ [])
IsTrail-push es e trail none level = record {
  once = IsOnce-push es e trail.once none;
  levels = All-push HasLevel es e trail.levels level;
}

-- the newest of a list
slice_get-push : (es : List Entry) (e : Entry) → slice_get (es ++ e ∷ []) (length es) ≡ Some e
slice_get-push [] e = refl
slice_get-push (f ∷ es) e = slice_get-push es e

-- the length of a list with an entry added, less one
length-push : (es : List Entry) (e : Entry) → length (es ++ e ∷ []) - 1 ≡ length es
length-push es e = omega (arith, length-append es (e ∷ []))

-- the level of the newest entry
pub top_level-push : (es : List Entry) (e : Entry) → top_level (es ++ e ∷ []) ≡ e.level
top_level-push es e = rw (length-push es e, slice_get-push es e) refl

-- what is left without the newest entry
pub take-push : (es : List Entry) (e : Entry) → take (length (es ++ e ∷ []) - 1) (es ++ e ∷ []) ≡ es
take-push es e = rw (length-push es e) (take-append_seam es (e ∷ []))

-- a trail without its newest entry is a trail
pub IsTrail-pop : (es : List Entry) (e : Entry) → IsTrail (es ++ e ∷ []) → IsTrail es
IsTrail-pop es e trail = record {
  once = (IsOnce-pop es e trail.once).0;
  levels = rw (take-push es e) at (All-take HasLevel (length (es ++ e ∷ []) - 1) (es ++ e ∷ []) trail.levels);
}

-- an entry above the level isn't kept
pub entries_until-above : (l : ℕ) (es : List Entry) (e : Entry) → l < e.level →
    entries_until l (es ++ e ∷ []) ≡ entries_until l es
entries_until-above l [] e above = rw (lt-ltb _ _ above) refl
entries_until-above l (f ∷ es) e above =
    let all = list_all-append (λ x. nat_lt l x.level) es (e ∷ []) in
    rw (all, lt-ltb _ _ above, and-true, entries_until-above l es e above) refl

-- below an entry that isn't above the level each is kept
pub entries_until-within : (l : ℕ) (es : List Entry) (e : Entry) → e.level ≤ l →
    entries_until l (es ++ e ∷ []) ≡ es ++ e ∷ []
entries_until-within l [] e within = rw (le-ltb _ _ within) refl
entries_until-within l (f ∷ es) e within =
    let all = list_all-append (λ x. nat_lt l x.level) es (e ∷ []) in
    rw (all, le-ltb _ _ within, and-false, and-false, entries_until-within l es e within) refl

-- a trail is empty or has a newest entry
newest_or_none : (es : List Entry) → (es ≡ []) ⊎ ((front : List Entry) × (e : Entry) × (es ≡ front ++ e ∷ []))
newest_or_none [] = inl refl
newest_or_none (f ∷ es) = elim (newest_or_none es) [
  | inl none ↦ inr ([], f, ap (λ (xs : List Entry). f ∷ xs) none)
  | inr some ↦ inr (f ∷ some.0, some.1, ap (λ (xs : List Entry). f ∷ xs) some.2)
]

-- the top of a trail that isn't empty is at least 1
pub top_level-positive : (es : List Entry) → All HasLevel es → 0 < length es → 1 ≤ top_level es
top_level-positive es all some = elim (newest_or_none es) [
  | inl none ↦ absurd (omega (arith, ap length none))
  | inr split ↦
      let front = split.0 in
      let e = split.1 in
      let is : es ≡ front ++ e ∷ [] = split.2 in
      let last : length front < length es = omega (arith, ap length is, length-append front (e ∷ [])) in
      let here : 1 ≤ (get_or es (length front) e).level = (all (length front) e last).0 in
      let read : get_or es (length front) e ≡ e = rw is (get_or-append_seam front e [] e) in
      omega (arith, ap (λ (f : Entry). f.level) read, ap top_level is, top_level-push front e)
]

-- ---- the place and the floor

-- a trail by its parts
abbrev trail : List Entry → ℕ → ℕ → Trail
trail es place floor = record { entries = es; place = place; floor = floor }

-- trails of the same parts are the same
pub same_trail : {es fs : List Entry} {p q m n : ℕ} → es ≡ fs → p ≡ q → m ≡ n → trail es p m ≡ trail fs q n
same_trail entries place floor = cc

-- a list of length 0 is empty
none_at_zero : (es : List Entry) → length es ≡ 0 → es ≡ []
none_at_zero [] h = refl
none_at_zero (e ∷ es) h = absurd (omega (arith, h))

-- a trail without entries is the empty one
pub empty_at_zero : (t : Trail) → IsWithin t → length t.entries ≡ 0 → t ≡ empty_trail
empty_at_zero t within h = same_trail (none_at_zero t.entries h) (omega arith) (omega arith)
