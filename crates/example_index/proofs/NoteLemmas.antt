-- Version sets that are listed, and texts that go on.
use Rattle.std.proofs.Common.{◌≡◌, ◌∙◌, ℕ, suc, ◌+◌, Bool, true, false, List, [], ◌∷◌, ◌++◌, map, arith, ap, sym}
use Rattle.std.proofs.Common.{append_assoc, append-nil, if◌then◌else◌, ◌-◌, ◌<◌, ◌≤◌, drop, get_or, length}
use Rattle.std.proofs.lemmas.Bool.{eq-eqb, ne_eqb}
use Rattle.std.proofs.lemmas.List.{at_drop_all, drop_more, length-drop, map-append}
use Rattle.example_index.proofs.Words.{is_noted, IsAppended, IsContinued, more_text, note_text, notes_from, package_of}
use Rattle.example_index.proofs.Words.{places_where, SmallIndex, String, string_bytes, VersionSetId}

abbrev pub places_of : List VersionSetId → List ℕ
places_of sets = map (λ (set : VersionSetId). set.0) sets

module _ (is_so : ℕ → Bool) (n : ℕ) where
  next : (b : Bool) → is_so n ≡ b
      → places_where is_so (n + 1) ≡ (if b then places_where is_so n ++ n ∷ [] else places_where is_so n)
  next b h =
      let more : n + 1 ≡ suc n = omega arith in
      ap (places_where is_so) more ∙ ap (λ c. if c then places_where is_so n ++ n ∷ [] else places_where is_so n) h

  -- the set at the next place is listed, or it isn't
  module _ (found : List VersionSetId) (so_far : places_of found ≡ places_where is_so n) where
    pub one_listed : (set : VersionSetId) → set.0 ≡ n → is_so n ≡ true
        → places_of (found ++ set ∷ []) ≡ places_where is_so (n + 1)
    one_listed set at h =
        map-append (λ (set : VersionSetId). set.0) found (set ∷ [])
        ∙ ap (λ ps. ps ++ set.0 ∷ []) so_far ∙ ap (λ m. places_where is_so n ++ m ∷ []) at ∙ sym (next true h)

    pub none_listed : is_so n ≡ false → places_of found ≡ places_where is_so (n + 1)
    none_listed h = so_far ∙ sym (next false h)

-- a text goes on behind itself
pub continued_none : {A : Type 0} (text : String A) → IsContinued text text
continued_none text = ([], sym (append-nil (string_bytes text)))

pub continued_more : {A : Type 0} (old text new : String A) (more : List ℕ) → IsContinued old text
    → IsAppended text new more → IsContinued old new
continued_more old text new more continued appended = (
  continued.0 ++ more,
  appended ∙ ap (λ bytes. bytes ++ more) continued.1
      ∙ append_assoc (string_bytes old) continued.0 more,
)

-- of the sets that are left the first has no room, was noted before, or is noted
module _ (index : SmallIndex) (room : ℕ) (noted : List ℕ) (set : VersionSetId) (rest : List VersionSetId) where
  abbrev by_room : Bool → List ℕ
  by_room b = if b then more_text (length (set ∷ rest))
      else if is_noted index noted set then notes_from index room noted rest
      else note_text index set ++ notes_from index (room - 1) (noted ++ package_of index set ∷ []) rest

  no_room : room ≡ 0 → notes_from index room noted (set ∷ rest) ≡ more_text (length (set ∷ rest))
  no_room full = ap by_room (eq-eqb room 0 full)

  abbrev by_noted : Bool → List ℕ
  by_noted b = if b then notes_from index room noted rest
      else note_text index set ++ notes_from index (room - 1) (noted ++ package_of index set ∷ []) rest

  module _ (has_room : room ≡ 0 → ⊥) where
    noted_before : is_noted index noted set ≡ true
        → notes_from index room noted (set ∷ rest) ≡ notes_from index room noted rest
    noted_before before = ap by_room (ne_eqb room 0 has_room) ∙ ap by_noted before

    noted_now : is_noted index noted set ≡ false
        → notes_from index room noted (set ∷ rest)
        ≡ note_text index set ++ notes_from index (room - 1) (noted ++ package_of index set ∷ []) rest
    noted_now fresh = ap by_room (ne_eqb room 0 has_room) ∙ ap by_noted fresh

-- a text and the notes of the sets from a place on are the whole text
module _ (index : SmallIndex) (sets : List VersionSetId) (i room : ℕ) (noted : List ℕ) (text all : List ℕ)
    (so_far : text ++ notes_from index room noted (drop i sets) ≡ all) where
  pub told_all : length sets ≤ i → text ≡ all
  told_all end =
      sym (append-nil text) ∙ sym (ap (λ more. text ++ more) (at_drop_all (notes_from index room noted) sets i end))
      ∙ so_far

  module _ (d : VersionSetId) (here : i < length sets) where
    abbrev rest : List VersionSetId
    rest = drop (i + 1) sets

    left : drop i sets ≡ get_or sets i d ∷ rest
    left = drop_more sets i d here

    pub told_rest : (new : List ℕ) → room ≡ 0 → new ≡ text ++ more_text (length sets - i) → new ≡ all
    told_rest new full is =
        is
        ∙ sym (ap (λ more. text ++ more) (ap (notes_from index room noted) left
        ∙ no_room index room noted (get_or sets i d) rest full
        ∙ ap more_text (sym (ap length left) ∙ length-drop i sets)))
        ∙ so_far

    pub told_before : (room ≡ 0 → ⊥) → is_noted index noted (get_or sets i d) ≡ true
        → text ++ notes_from index room noted rest ≡ all
    told_before has_room before =
        sym (ap (λ more. text ++ more) (ap (notes_from index room noted) left
        ∙ noted_before index room noted (get_or sets i d) rest has_room before))
        ∙ so_far

    pub told_now : (new : List ℕ) → (room ≡ 0 → ⊥) → is_noted index noted (get_or sets i d) ≡ false
        → new ≡ text ++ note_text index (get_or sets i d)
        → new ++ notes_from index (room - 1) (noted ++ package_of index (get_or sets i d) ∷ []) rest ≡ all
    told_now new has_room fresh is =
        ap (λ t. t ++ notes_from index (room - 1) (noted ++ package_of index (get_or sets i d) ∷ []) rest) is
        ∙ append_assoc text (note_text index (get_or sets i d))
        (notes_from index (room - 1) (noted ++ package_of index (get_or sets i d) ∷ []) rest)
        ∙ sym (ap (λ more. text ++ more) (ap (notes_from index room noted) left
        ∙ noted_now index room noted (get_or sets i d) rest has_room fresh))
        ∙ so_far
