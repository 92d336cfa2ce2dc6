-- What changes of kept trackers make of the function from names to trackers.
use Rattle.std.proofs.Common.{◌≡◌, ℕ, ◌<◌, ◌≤◌, ◌^◌, Bool, true, false, cond, List, [], ◌∷◌, ◌++◌, length, get_or}
use Rattle.std.proofs.Common.{set, slice_get, is_some, Option, None, Some, refl, sym, ◌∙◌, ap, subst, arith, true≢false}
use Rattle.std.specs.Prelude.{nat_eq, ◌==◌, IsTrue, MatchOption}
use Rattle.std.proofs.Math.Path.{fun_ext}
use Rattle.std.specs.Option.{option_map, unwrap_or}
use Rattle.std.specs.Cmp.{IsEquivalence}
use Rattle.std.specs.Map.{lookup, set_value}
use Rattle.std.proofs.lemmas.Map.{lookup-set_value}
use Rattle.std.proofs.lemmas.Option.{slice_get_read}
use Rattle.id_storage.specs.StoredAnswers.{AreStored, place_of}
use Rattle.id_storage.proofs.AnswerLemmas.{place_below, answer_earlier, answer_replaced, AreStored-replaced}
use Rattle.at_most_once.specs.AtMostOne.{Tracker, TrackerState, HasRoom, KeepsRoom, empty, with_variable}
use Rattle.at_most_once.specs.NameTrackers.{tracker_of, with_tracked, KeepsRoomFor, lacks_tracker}

-- the tracker in what is found
abbrev pub tracker_in : Option (TrackerState ℕ) → Tracker ℕ
tracker_in found = unwrap_or (option_map (λ t. t.tracker) found) empty

module _ {N : Type 0} (same : N → N → Bool) where
  pub tracker_found : (kept : List (N × TrackerState ℕ)) (name : N) (found : Option (TrackerState ℕ)) →
      lookup (same name) kept ≡ found
      → tracker_of same kept name ≡ tracker_in found
  unfolding tracker_of
  tracker_found kept name found is = ap tracker_in is

  pub tracker_missing : (kept : List (N × TrackerState ℕ)) (name : N) → is_some (lookup (same name) kept) ≡ false →
      tracker_of same kept name ≡ empty
  unfolding tracker_of
  tracker_missing kept name missing = by (lookup (same name) kept) missing
    where
      by : (found : Option (TrackerState ℕ)) → is_some found ≡ false → tracker_in found ≡ empty
      by None e = refl
      by (Some t) e = absurd (true≢false e)

  pub nothing_tracked : tracker_of same [] ≡ (λ name. empty)
  unfolding tracker_of
  nothing_tracked = refl

  found_at_end : (kept : List (N × TrackerState ℕ)) (name : N) (t : TrackerState ℕ) (other : N) → t.tracker ≡ empty
      → tracker_in (lookup (same other) (kept ++ (name, t) ∷ [])) ≡ tracker_in (lookup (same other) kept)
  found_at_end [] name t other e =
      elim (same other name) as (λ b. tracker_in (cond b (Some t) None) ≡ empty) [ true ↦ e | false ↦ refl ]
  found_at_end (k ∷ kept) name t other e =
      elim (same other k.0) as (λ b. tracker_in (cond b (Some k.1) (lookup (same other) (kept ++ (name, t) ∷ []))) ≡
      tracker_in (cond b (Some k.1) (lookup (same other) kept)))
      [ true ↦ refl | false ↦ found_at_end kept name t other e ]

  -- an empty tracker more changes nothing
  pub tracker_started : (kept : List (N × TrackerState ℕ)) (name : N) (t : TrackerState ℕ) → t.tracker ≡ empty
      → tracker_of same (kept ++ (name, t) ∷ []) ≡ tracker_of same kept
  unfolding tracker_of
  tracker_started kept name t e = fun_ext (λ other. found_at_end kept name t other e)

  -- an empty tracker more takes no room away
  pub room_started : (kept : List (N × TrackerState ℕ)) (name : N) (t : TrackerState ℕ) (other : N) →
      KeepsRoomFor same other kept (kept ++ (name, t) ∷ [])
  room_started [] name t other with_helper h = absurd h
  room_started (k ∷ kept) name t other with_helper h =
      (elim (same other k.0) as (λ b. MatchOption (cond b (Some k.1) (lookup (same other) kept)) ⊥
      (λ t. HasRoom t with_helper)
      → MatchOption (cond b (Some k.1) (lookup (same other) (kept ++ (name, t) ∷ []))) ⊥ (λ t. HasRoom t with_helper))
      [ true ↦ λ h. h | false ↦ λ h. room_started kept name t other with_helper h ]) h

module _ {N : Type 0} (same : N → N → Bool) (laws : IsEquivalence same) where
  -- with another tracker in the place of a name's
  found_put : (kept : List (N × TrackerState ℕ)) (name : N) (t : TrackerState ℕ) (other : N) →
      is_some (lookup (same name) kept) ≡ true
      → lookup (same other) (set_value (same name) kept t) ≡ cond (same other name) (Some t) (lookup (same other) kept)
  found_put kept name t other some =
      lookup-set_value laws (same name) (λ x y. laws.congr name x y) other t kept some
      ∙ ap (λ b. cond b (Some t) (lookup (same other) kept)) (laws.symm name other)

  pub still_found : (kept : List (N × TrackerState ℕ)) (name : N) (t : TrackerState ℕ) →
      is_some (lookup (same name) kept) ≡ true
      → lookup (same name) (set_value (same name) kept t) ≡ Some t
  still_found kept name t some =
      found_put kept name t name some ∙ ap (λ b. cond b (Some t) (lookup (same name) kept)) (laws.refl name)

  module _ (is_sameness : (a b : N) → same a b ≡ true → a ≡ b) (kept : List (N × TrackerState ℕ)) (name : N)
      (earlier after : TrackerState ℕ) (is : lookup (same name) kept ≡ Some earlier) where
    -- a tracker that tracks the same
    pub tracker_kept : after.tracker ≡ earlier.tracker → tracker_of same (set_value (same name) kept after)
        ≡ tracker_of same kept
    unfolding tracker_of
    tracker_kept e = fun_ext (λ other. ap tracker_in (found_put kept name after other (ap is_some is))
        ∙ by other (same other name) refl)
      where
        by : (other : N) (b : Bool) → same other name ≡ b →
            tracker_in (cond b (Some after) (lookup (same other) kept)) ≡ tracker_in (lookup (same other) kept)
        by other true t = e ∙ sym (ap tracker_in (subst (λ n. lookup (same n) kept ≡ Some earlier)
            (sym (is_sameness other name t)) is))
        by other false t = refl

    -- another name has the room that it had
    pub room_of_others : (other : N) → same other name ≡ false →
        KeepsRoomFor same other kept (set_value (same name) kept after)
    room_of_others other differs with_helper h =
        subst (λ o. MatchOption o ⊥ (λ t. HasRoom t with_helper))
        (sym (found_put kept name after other (ap is_some is)
        ∙ ap (λ b. cond b (Some after) (lookup (same other) kept)) differs)) h

    -- a tracker with the same room, or more
    pub room_kept : KeepsRoom earlier after → (other : N) →
        KeepsRoomFor same other kept (set_value (same name) kept after)
    room_kept keeps other with_helper h =
        subst (λ o. MatchOption o ⊥ (λ t. HasRoom t with_helper))
        (sym (found_put kept name after other (ap is_some is)))
        (by (same other name) refl h)
      where
        by : (b : Bool) → same other name ≡ b → MatchOption (lookup (same other) kept) ⊥ (λ t. HasRoom t with_helper)
            → MatchOption (cond b (Some after) (lookup (same other) kept)) ⊥ (λ t. HasRoom t with_helper)
        by true e h = keeps with_helper
            (subst (λ o. MatchOption o ⊥ (λ t. HasRoom t with_helper))
            (ap (λ n. lookup (same n) kept) (is_sameness other name e) ∙ is) h)
        by false e h = h

    -- a tracker with one variable more
    pub variable_tracked : (variable : ℕ) (helper : Option ℕ) →
        after.tracker ≡ with_variable nat_eq earlier.tracker helper variable
        → tracker_of same (set_value (same name) kept after) ≡ with_tracked same name variable helper
        (tracker_of same kept)
    unfolding tracker_of
    variable_tracked variable helper e = fun_ext (λ other.
        ap tracker_in (found_put kept name after other (ap is_some is)) ∙ by other (same other name))
      where
        by : (other : N) (b : Bool) → tracker_in (cond b (Some after) (lookup (same other) kept))
            ≡ cond b (with_variable nat_eq (tracker_in (lookup (same name) kept)) helper variable)
            (tracker_in (lookup (same other) kept))
        by other true = e ∙ ap (λ o. with_variable nat_eq (tracker_in o) helper variable) (sym is)
        by other false = refl

-- ---- the tracker at a name's place

module _ {N : Type 0} (same : N → N → Bool) (IsId : N → Type 0) (places : N →
    Option ℕ) (kept : List (N × TrackerState ℕ)) (name : N) (p : ℕ)
    (are : AreStored same IsId (2 ^ 32) places kept) (at : place_of same kept name ≡ Some p) where
  pub place_within : p < length kept
  place_within = (place_below same IsId (2 ^ 32) places kept name p are at).0

  module _ (x : N × TrackerState ℕ) (read : x ≡ get_or kept p x) where
    stands : slice_get kept p ≡ Some x
    stands = slice_get_read kept (length kept) p x refl place_within read

    pub is_found : lookup (same name) kept ≡ Some x.1
    is_found = answer_earlier same kept name p x at stands

    -- another tracker in its place
    pub put_there : (after : TrackerState ℕ) → set kept p (x.0, after) ≡ set_value (same name) kept after
    put_there after = answer_replaced same kept name p x after at stands

    pub still_kept : (after : TrackerState ℕ) → AreStored same IsId (2 ^ 32) places (set kept p (x.0, after))
    still_kept after =
        subst (AreStored same IsId (2 ^ 32) places) (sym (put_there after))
        (AreStored-replaced same IsId (2 ^ 32) places kept (same name) after are)

-- ---- why a tracker is refused

-- nothing is tracked yet, and there are 2^32 trackers
pub too_many : (is_large many : Bool) (count : ℕ) (t : Tracker ℕ) → (many ≡ false → count < 2 ^ 32) →
    2 ^ 32 ≤ count → t ≡ empty
    → IsTrue (lacks_tracker is_large many t)
too_many true many count t few out none = refl
too_many false true count t few out none = ap (λ t. length t.variables == 0) none
too_many false false count t few out none = (let below = few refl in let no : ⊥ = omega arith in absurd no)
