-- What a tracker's fields show after a decision is added or taken back.
use Rattle.std.specs.Prelude.{◌≡◌, ◌≢◌, ℕ, ◌+◌, ◌-◌, ◌≤◌, ◌==◌, if◌then◌else◌, Bool, true, false, refl}
use Rattle.std.specs.Prelude.{List, [], ◌∷◌, ◌++◌, map, length, take, Option, Some, None, option_map}
use Rattle.std.specs.Prelude.{◌<◌, slice_get, slice_index_or}
use Rattle.std.specs.List.{find}
use Rattle.std.specs.Option.{option_map_or, option_to_list}
use Rattle.std.proofs.Common.{ap, subst, ◌∙◌, sym, arith}
use Rattle.std.proofs.lemmas.Bool.{eqb-true, eqb-false}
use Rattle.std.proofs.lemmas.List.{map-append, length-map, take_more}
use Rattle.std.proofs.lemmas.Option.{slice_get_within, get_or_from_slice_get}
use Rattle.typed_ids.specs.TotalMaps.{IsUpdate}
use Rattle.decisions.specs.Decisions.{decision_in, values_in, level_in}
use Rattle.decisions.specs.Tracker.{entries_of, IsTracked}
use Rattle.decisions.specs.Trail.{Entry, Trail, val, level_of, clause_of, top_level, entries_until}
use Rattle.decisions.specs.Trail.{HasLevel, IsTrail, IsWithin}
use Rattle.decisions.specs.declared.decision.Decision.{Decision}
use Rattle.decisions.proofs.TrailLemmas.{none_by_variable, val-push, take-push}
use Rattle.decisions.proofs.TrailLemmas.{IsOnce-pop, IsTrail-push, IsTrail-pop}
use Rattle.decisions.proofs.TrailLemmas.{entries_until-above, entries_until-within, top_level-push}

-- what a decision map holds
abbrev MapItems : Type 0
MapItems = List (Option (Bool × ℕ))

-- the entry of a decision
abbrev entry : MapItems → Decision → Entry
entry decisions d = record { decision = d; level = level_in decisions d.variable }

-- as many entries as decisions
pub length-entries_of : (decisions : MapItems) (ds : List Decision) → length (entries_of decisions ds) ≡ length ds
length-entries_of decisions ds = length-map ds (entry decisions)

-- the trail that a tracker shows
abbrev pub trail_of : MapItems → List Decision → ℕ → ℕ → Trail
trail_of decisions ds place floor = record { entries = entries_of decisions ds; place = place; floor = floor }

-- the place and the floor are within the entries
pub IsWithin-trail_of : (decisions : MapItems) (ds : List Decision) (place floor : ℕ) → place ≤ length ds
    → floor ≤ length ds → IsWithin (trail_of decisions ds place floor)
IsWithin-trail_of decisions ds place floor p f = record {
  place = omega (arith, length-entries_of decisions ds);
  floor = omega (arith, length-entries_of decisions ds);
}

-- the clause of the first decision, or of a later one
clause_by_test : (d : Decision) (b : Bool) (rest : Option ℕ) (found : Option Decision)
    → rest ≡ option_map (λ (d : Decision). d.derived_from) found
    → (if b then Some d.derived_from else rest) ≡ option_map (λ (d : Decision). d.derived_from)
    (if b then Some d else found)
clause_by_test d true rest found h = refl
clause_by_test d false rest found h = h

-- the clause of a variable is that of the first decision about it
pub clause_of-entries_of : (decisions : MapItems) (ds : List Decision) (x : ℕ)
    → clause_of (entries_of decisions ds) x ≡ option_map (λ (d : Decision). d.derived_from)
    (find (λ d. d.variable == x) ds)
clause_of-entries_of decisions [] x = refl
clause_of-entries_of decisions (d ∷ ds) x = clause_by_test d (d.variable == x) _ _ (clause_of-entries_of decisions ds x)

-- the decisions of the trail
pub map-entries_of : (decisions : MapItems) (ds : List Decision)
    → map (λ (e : Entry). e.decision) (entries_of decisions ds) ≡ ds
map-entries_of decisions [] = refl
map-entries_of decisions (d ∷ ds) = ap (λ (xs : List Decision). d ∷ xs) (map-entries_of decisions ds)

-- a variable without a value has level 0
level_without : (decision : Option (Bool × ℕ)) → option_map (λ d. d.0) decision ≡ None
    → 0 ≡ option_map_or (λ d. d.1) decision 0
level_without None none = refl
level_without (Some d) none = cc

-- an entry's level, or else that of the map
level_by_test : (decisions : MapItems) (v x : ℕ) (b : Bool) (rest : ℕ) → (v == x) ≡ b
    → (b ≡ false → rest ≡ level_in decisions x) → (if b then level_in decisions v else rest) ≡ level_in decisions x
level_by_test decisions v x true rest e outside = ap (level_in decisions) (eqb-true v x e)
level_by_test decisions v x false rest e outside = outside refl

-- the level that a trail gives is that of the map, if that is so where the trail has no entry
level_of-entries : (decisions : MapItems) (ds : List Decision) (x : ℕ)
    → (val (entries_of decisions ds) x ≡ None → 0 ≡ level_in decisions x)
    → level_of (entries_of decisions ds) x ≡ level_in decisions x
level_of-entries decisions [] x outside = outside refl
level_of-entries decisions (d ∷ ds) x outside =
    let rest = λ (e : (d.variable == x) ≡ false). level_of-entries decisions ds x (λ none. outside (rw e none)) in
    level_by_test decisions d.variable x (d.variable == x) _ refl rest

-- the level of a variable
pub level_of-entries_of : (decisions : MapItems) (ds : List Decision) (x : ℕ) → IsTracked decisions ds
    → level_of (entries_of decisions ds) x ≡ level_in decisions x
level_of-entries_of decisions ds x tracked =
    level_of-entries decisions ds x (λ none. level_without (decision_in decisions x) (tracked.values x ∙ none))

-- a change of the map at a variable without an entry leaves the entries
entries_of-update : (old new : MapItems) (v : ℕ) (ds : List Decision)
    → ((x : ℕ) → x ≢ v → decision_in new x ≡ decision_in old x) → val (entries_of old ds) v ≡ None
    → entries_of new ds ≡ entries_of old ds
entries_of-update old new v [] same none = refl
entries_of-update old new v (d ∷ ds) same none =
    let apart = none_by_variable d.variable v d.value (val (entries_of old ds) v) none in
    rw (same d.variable apart.0, entries_of-update old new v ds same apart.1) refl

-- ---- a decision is added

module _ (old new : MapItems) (ds : List Decision) (d : Decision) (level : ℕ)
    (tracked : IsTracked old ds) (undecided : val (entries_of old ds) d.variable ≡ None)
    (set : IsUpdate (decision_in old) d.variable (Some (d.value, level)) (decision_in new)) where
  -- the trail has its entry at the end
  pub entries_of-push : entries_of new (ds ++ d ∷ []) ≡ entries_of old ds ++ record { decision = d; level = level } ∷ []
  entries_of-push =
      let unchanged = entries_of-update old new d.variable ds set.1 undecided in
      rw (map-append (entry new) ds (d ∷ []), unchanged, set.0) refl

  -- the values with it
  values-push : (x : ℕ) (b : Bool) → (d.variable == x) ≡ b
      → values_in new x ≡ (if b then Some d.value else val (entries_of old ds) x)
  values-push x true e = rw (sym (eqb-true _ _ e), set.0) refl
  values-push x false e = ap (option_map (λ p. p.0)) (set.1 x (λ same. eqb-false _ _ e (sym same))) ∙ tracked.values x

  -- the tracker is in order
  pub IsTracked-push : HasLevel (record { decision = d; level = level }) → IsTracked new (ds ++ d ∷ [])
  IsTracked-push in_range = record {
    values = λ x. values-push x (d.variable == x) refl ∙ sym (rw entries_of-push (val-push _ _ x undecided));
    trail = rw entries_of-push (IsTrail-push _ _ tracked.trail undecided in_range);
  }

-- ---- the newest decision is taken back

module _ (old new : MapItems) (ds : List Decision) (d : Decision)
    (tracked : IsTracked old (ds ++ d ∷ []))
    (reset : IsUpdate (decision_in old) d.variable None (decision_in new)) where
  -- the trail had its entry at the end
  split : entries_of old (ds ++ d ∷ []) ≡ entries_of old ds ++ entry old d ∷ []
  split = map-append (entry old) ds (d ∷ [])

  -- and was in order
  was_trail : IsTrail (entries_of old ds ++ entry old d ∷ [])
  was_trail = rw split at tracked.trail

  -- no other entry is of its variable
  undecided : val (entries_of old ds) d.variable ≡ None
  undecided = (IsOnce-pop (entries_of old ds) (entry old d) was_trail.once).1

  -- the other entries stay
  unchanged : entries_of new ds ≡ entries_of old ds
  unchanged = entries_of-update old new d.variable ds reset.1 undecided

  -- the trail is what it was, without the newest entry
  pub entries_of-pop : entries_of new ds ≡ take (length (entries_of old (ds ++ d ∷ [])) - 1)
      (entries_of old (ds ++ d ∷ []))
  entries_of-pop = rw (split, take-push (entries_of old ds) (entry old d)) unchanged

  -- of entries that stay where they aren't above a level, that one doesn't where it is
  pub entries_until-pop : (l : ℕ) → l < level_in old d.variable
      → entries_until l (entries_of new ds) ≡ entries_until l (entries_of old (ds ++ d ∷ []))
  entries_until-pop l above = rw (split, unchanged)
      (sym (entries_until-above l (entries_of old ds) (entry old d) above))

  -- the values without it
  values-pop : (x : ℕ) (b : Bool) → (d.variable == x) ≡ b → values_in new x ≡ val (entries_of old ds) x
  values-pop x true e = rw (sym (eqb-true _ _ e), reset.0) (sym undecided)
  values-pop x false e =
      let before = rw (split, val-push (entries_of old ds) (entry old d) x undecided, e) at (tracked.values x) in
      ap (option_map (λ p. p.0)) (reset.1 x (λ same. eqb-false _ _ e (sym same))) ∙ before

  -- the tracker is in order
  pub IsTracked-pop : IsTracked new ds
  IsTracked-pop = record {
    values = λ x. values-pop x (d.variable == x) refl ∙ ap (λ es. val es x) (sym unchanged);
    trail = rw unchanged (IsTrail-pop (entries_of old ds) (entry old d) was_trail);
  }

-- ---- the newest decision stays

-- all decisions do where the newest isn't above the level, which is that of the trail
pub entries_until-entries_of : (decisions : MapItems) (ds : List Decision) (d : Decision) (l : ℕ)
    → level_in decisions d.variable ≤ l
    → (entries_of decisions (ds ++ d ∷ []) ≡ entries_until l (entries_of decisions (ds ++ d ∷ [])))
    × (top_level (entries_of decisions (ds ++ d ∷ [])) ≤ l)
entries_until-entries_of decisions ds d l within =
    let front = entries_of decisions ds in
    let top = top_level-push front (entry decisions d) in
    rw (map-append (entry decisions) ds (d ∷ []))
    (sym (entries_until-within l front (entry decisions d) within), omega (arith, top, within))

-- the first decisions are those before the last of them, and that one
pub take-last : (ds : List Decision) (count : ℕ) (d : Decision) → 0 < count → count ≤ length ds
    → take count ds ≡ take (count - 1) ds ++ slice_index_or ds (count - 1) d ∷ []
take-last ds count d some within =
    let one_more : count - 1 + 1 ≡ count = omega arith in
    subst (λ n. take n ds ≡ take (count - 1) ds ++ slice_index_or ds (count - 1) d ∷ []) one_more
    (take_more ds (count - 1) d (omega arith))

-- what is popped off a list is its last item
pub popped_is_last : {X : Type 0} (xs rest : List X) (len : ℕ) (popped : Option X) (x : X) → len ≡ length xs
    → slice_get xs (length xs - 1) ≡ Some x → (0 < len → popped ≡ Some (slice_index_or xs (len - 1) x))
    → xs ≡ rest ++ option_to_list popped → xs ≡ rest ++ x ∷ []
popped_is_last xs rest len popped x is_len last value items =
    let within = slice_get_within xs (length xs - 1) x last in
    let read = rw is_len at value (omega (arith, within, is_len)) in
    rw (read ∙ ap Some (get_or_from_slice_get xs (length xs - 1) x x last)) at items
