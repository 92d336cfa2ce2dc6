-- The entries of a map by requirements, and their places.
use Rattle.std.proofs.Common.{◌≡◌, ◌≢◌, ◌<◌, ◌≤◌, ◌^◌, Bool, true, false, not, cond, min, set, ℕ, zero, suc, ◌+◌, List}
use Rattle.std.proofs.Common.{[], ◌∷◌, ◌++◌, length, get_or, slice_get, is_some, Option, None, Some, ◌∙◌, ap, refl, sym}
use Rattle.std.proofs.Common.{subst, arith, true≢false}
use Rattle.std.specs.Prelude.{◌==◌, ⊤, MatchOption}
use Rattle.std.specs.Cmp.{IsEquivalence}
use Rattle.std.specs.List.{All, IsDistinct, position_or_len, position_from}
use Rattle.std.specs.Map.{lookup, keys_of, values_of, set_value}
use Rattle.std.proofs.lemmas.Bool.{eqb-true}
use Rattle.std.proofs.lemmas.Bool.Decides.{nat_tests}
use Rattle.std.proofs.lemmas.Map.Entries.{length-keys_of}
use Rattle.std.proofs.lemmas.Map.Steps.{set_value_same}
use Rattle.std.proofs.lemmas.Option.{slice_get_read}
use Rattle.typed_ids.specs.TotalMaps.{IsUpdate, SameValues}
use Rattle.id_storage.specs.StoredAnswers.{AreStored, place_of}
use Rattle.id_storage.proofs.AnswerLemmas.{place_is, answer_at, answer_earlier, AreStored-push, AreStored-same}
use Rattle.providers.specs.declared.requirement.Requirement.{Requirement}
use Rattle.providers.specs.declared.requirement.Requirement.TheVariants.{Single, Union}
use Rattle.providers.specs.Requirement.{same_requirement}
use Rattle.providers.specs.RequirementMap.{with_entry, with_value_at, ArePlaced}

-- ---- when requirements are the same

pub same_is : (r q : Requirement) → same_requirement r q ≡ true → r ≡ q
same_is (Single v) (Single w) e = ap (λ (n : ℕ). Single (record { 0 = n })) (eqb-true v.0 w.0 e)
same_is (Union v) (Union w) e = ap (λ (n : ℕ). Union (record { 0 = n })) (eqb-true v.0 w.0 e)
same_is (Single v) (Union w) e = cc
same_is (Union v) (Single w) e = cc

pub same_laws : IsEquivalence same_requirement
same_laws = record { refl = reflexive; symm = symmetric; congr = congruent }
  where
    reflexive : (r : Requirement) → same_requirement r r ≡ true
    reflexive (Single v) = grind (arith, nat_tests)
    reflexive (Union u) = grind (arith, nat_tests)

    symmetric : (r s : Requirement) → same_requirement r s ≡ same_requirement s r
    symmetric (Single v) (Single w) = grind (arith, nat_tests)
    symmetric (Single v) (Union w) = refl
    symmetric (Union v) (Single w) = refl
    symmetric (Union v) (Union w) = grind (arith, nat_tests)

    congruent : (r s t : Requirement) → same_requirement r s ≡ true → same_requirement r t ≡ same_requirement s t
    congruent r s t h = ap (λ q. same_requirement q t) (same_is r s h)

module _ {V : Type 0} (r : Requirement) where
  -- where the requirement's entry is, or will be
  abbrev place : List (Requirement × V) → ℕ
  place es = position_or_len (same_requirement r) (keys_of es)

  -- there is an entry in that place
  pub place_within : (es : List (Requirement × V)) (v : V) → place es < length (with_entry es r v)
  place_within [] v = omega arith
  place_within (e ∷ es) v =
      let rest = place_within es v in
      elim (same_requirement r e.0) as (λ b. cond (not b) (1 + place es) 0 < length
      (cond b ((e.0, v) ∷ es) (e ∷ with_entry es r v))) [
        | true ↦ omega arith
        | false ↦ omega (arith, rest)
      ]

  -- it has the value
  pub value_in_place : (es : List (Requirement × V)) (v : V) →
      slice_get (values_of (with_entry es r v)) (place es) ≡ Some v
  value_in_place [] v = refl
  value_in_place (e ∷ es) v =
      elim (same_requirement r e.0) as (λ b. slice_get (values_of (cond b ((e.0, v) ∷ es) (e ∷ with_entry es r v)))
      (cond (not b) (1 + place es) 0) ≡ Some v) [
        | true ↦ refl
        | false ↦
            let next : 1 + place es ≡ suc (place es) = omega arith in
            ap (λ n. slice_get (e.1 ∷ values_of (with_entry es r v)) n) next ∙ value_in_place es v
      ]

  -- a write in that place gives the requirement another value
  pub set_in_place : (es : List (Requirement × V)) (v w : V) →
      with_value_at (with_entry es r v) (place es) w ≡ with_entry es r w
  set_in_place [] v w = refl
  set_in_place (e ∷ es) v w =
      elim (same_requirement r e.0) as (λ b. with_value_at (cond b ((e.0, v) ∷ es) (e ∷ with_entry es r v))
      (cond (not b) (1 + place es) 0) w ≡ cond b ((e.0, w) ∷ es) (e ∷ with_entry es r w)) [
        | true ↦ refl
        | false ↦
            let next : 1 + place es ≡ suc (place es) = omega arith in
            ap (λ n. with_value_at (e ∷ with_entry es r v) n w) next ∙ ap (λ rest. e ∷ rest) (set_in_place es v w)
      ]

  put_in_place : (es : List (Requirement × V)) (w : V) →
      with_value_at es (place es) w ≡ set_value (same_requirement r) es w
  put_in_place [] w = refl
  put_in_place (e ∷ es) w =
      elim (same_requirement r e.0) as (λ b. with_value_at (e ∷ es) (cond (not b) (1 + place es) 0) w
      ≡ cond b ((e.0, w) ∷ es) (e ∷ set_value (same_requirement r) es w)) [
        | true ↦ refl
        | false ↦
            let next : 1 + place es ≡ suc (place es) = omega arith in
            ap (λ n. with_value_at (e ∷ es) n w) next ∙ ap (λ rest. e ∷ rest) (put_in_place es w)
      ]

  -- a requirement without an entry: nothing is written, and one that is added comes at the end, in the next place
  pub nothing_written : (es : List (Requirement × V)) (w : V) → lookup (same_requirement r) es ≡ None
      → set_value (same_requirement r) es w ≡ es
  nothing_written [] w none = refl
  nothing_written (e ∷ es) w none =
      (elim (same_requirement r e.0) as (λ b. cond b (Some e.1) (lookup (same_requirement r) es) ≡ None
      → cond b ((e.0, w) ∷ es) (e ∷ set_value (same_requirement r) es w) ≡ e ∷ es) [
        | true ↦ λ h. (let no : ⊥ = cc in absurd no)
        | false ↦ λ h. ap (λ l. e ∷ l) (nothing_written es w h)
      ]) none

  pub entry_added : (es : List (Requirement × V)) (v : V) → lookup (same_requirement r) es ≡ None
      → with_entry es r v ≡ es ++ (r, v) ∷ []
  entry_added [] v none = refl
  entry_added (e ∷ es) v none =
      (elim (same_requirement r e.0) as (λ b. cond b (Some e.1) (lookup (same_requirement r) es) ≡ None
      → cond b ((e.0, v) ∷ es) (e ∷ with_entry es r v) ≡ e ∷ (es ++ (r, v) ∷ [])) [
        | true ↦ λ h. (let no : ⊥ = cc in absurd no)
        | false ↦ λ h. ap (λ l. e ∷ l) (entry_added es v h)
      ]) none

  pub place_added : (es : List (Requirement × V)) → lookup (same_requirement r) es ≡ None → place es ≡ length es
  place_added [] none = refl
  place_added (e ∷ es) none =
      (elim (same_requirement r e.0) as (λ b. cond b (Some e.1) (lookup (same_requirement r) es) ≡ None
      → cond (not b) (1 + place es) 0 ≡ length (e ∷ es)) [
        | true ↦ λ h. (let no : ⊥ = cc in absurd no)
        | false ↦ λ h. let rest = place_added es h in omega (arith, rest)
      ]) none

  -- one that has an entry gets the value there
  pub entry_replaced : (es : List (Requirement × V)) (v : V) → is_some (lookup (same_requirement r) es) ≡ true
      → with_entry es r v ≡ set_value (same_requirement r) es v
  entry_replaced [] v some = absurd (true≢false (sym some))
  entry_replaced (e ∷ es) v some =
      (elim (same_requirement r e.0) as (λ b. is_some (cond b (Some e.1) (lookup (same_requirement r) es)) ≡ true
      → cond b ((e.0, v) ∷ es) (e ∷ with_entry es r v)
      ≡ cond b ((e.0, v) ∷ es) (e ∷ set_value (same_requirement r) es v)) [
        | true ↦ λ h. refl
        | false ↦ λ h. ap (λ l. e ∷ l) (entry_replaced es v h)
      ]) some

  -- the entries as they are when the requirement's value is given to it again
  pub kept_entry : (es : List (Requirement × V)) (Given : V → Type 0) → is_some (lookup (same_requirement r) es) ≡ true
      → (value : V) × (es ≡ with_entry es r value)
      × MatchOption (lookup (same_requirement r) es) (Given value) (λ earlier. value ≡ earlier)
  kept_entry es Given some = by_found (lookup (same_requirement r) es) refl some
    where
      by_found : (o : Option V) → lookup (same_requirement r) es ≡ o → is_some o ≡ true →
          (value : V) × (es ≡ with_entry es r value)
          × MatchOption (lookup (same_requirement r) es) (Given value) (λ earlier. value ≡ earlier)
      by_found None e h = absurd (true≢false (sym h))
      by_found (Some w) e h = (
        w,
        sym (entry_replaced es w (ap is_some e) ∙ set_value_same (same_requirement r) es w e),
        subst (λ o. MatchOption o (Given w) (λ earlier. w ≡ earlier)) (sym e) refl,
      )

  module _ (es : List (Requirement × V)) (p : ℕ) (at : place_of same_requirement es r ≡ Some p) where
    pub place_at : place es ≡ p
    place_at = (place_is (same_requirement r) p (keys_of es) at).0

    pub within : p < length es
    within =
        let below = (place_is (same_requirement r) p (keys_of es) at).1 in
        let size : length (keys_of es) ≡ length es = length-keys_of es in
        omega (arith, below, size)

    -- the value in the requirement's place is its own
    pub found : (x : Requirement × V) → x ≡ get_or es p x → lookup (same_requirement r) es ≡ Some x.1
    found x read = answer_earlier same_requirement es r p x at (slice_get_read es (length es) p x refl within read)

    pub value_at : slice_get (values_of es) p ≡ lookup (same_requirement r) es
    value_at = answer_at same_requirement es r p at

    -- a write there is one to the requirement's value
    pub written : (w : V) → with_value_at es p w ≡ set_value (same_requirement r) es w
    written w = subst (λ n. with_value_at es n w ≡ set_value (same_requirement r) es w) place_at (put_in_place es w)

-- ---- entries of which one has another value

keys_at : {V : Type 0} (es : List (Requirement × V)) (i : ℕ) (w : V) → keys_of (with_value_at es i w) ≡ keys_of es
keys_at [] i w = refl
keys_at (e ∷ es) zero w = refl
keys_at (e ∷ es) (suc i) w = ap (λ ks. e.0 ∷ ks) (keys_at es i w)

same_length : {V : Type 0} (es : List (Requirement × V)) (i : ℕ) (w : V) → length (with_value_at es i w) ≡ length es
same_length [] i w = refl
same_length (e ∷ es) zero w = refl
same_length (e ∷ es) (suc i) w = ap suc (same_length es i w)

-- a write of the value alone
pub value_set : {V : Type 0} (es : List (Requirement × V)) (i : ℕ) (x : Requirement × V) (w : V) →
    slice_get es i ≡ Some x → set es i (x.0, w) ≡ with_value_at es i w
value_set [] i x w is = refl
value_set (e ∷ es) zero x w is = (let same : e ≡ x = cc in ap (λ y. (y.0, w) ∷ es) (sym same))
value_set (e ∷ es) (suc i) x w is = ap (λ l. e ∷ l) (value_set es i x w is)

-- the places stay
pub placed-value : {V : Type 0} (places : Requirement → Option ℕ) (es : List (Requirement × V)) (i : ℕ) (w : V) →
    ArePlaced places es → ArePlaced places (with_value_at es i w)
placed-value places es i w are =
    let keys = sym (keys_at es i w) in
    record {
      agrees = λ r. are.agrees r ∙ ap (position_from (same_requirement r) 0) keys;
      few = subst (λ n. n ≤ min (2 ^ 32) (2 ^ 32)) (sym (same_length es i w)) are.few;
      distinct = subst (IsDistinct same_requirement) keys are.distinct;
      ids = subst (All (λ _. ⊤)) keys are.ids;
    }

pub placed-same : {V : Type 0} (f g : Requirement → Option ℕ) (es : List (Requirement × V)) → SameValues f g →
    ArePlaced f es → ArePlaced g es
placed-same f g es alike are = AreStored-same same_requirement (λ _. ⊤) (2 ^ 32) f g es alike are

-- ---- one entry more

pub placed-push : {V : Type 0} (f g h : Requirement → Option ℕ) (es : List (Requirement × V)) (r : Requirement) (v : V)
    (m : ℕ) → m ≡ length es → m < 2 ^ 32 → ArePlaced f es → SameValues f g →
    lookup (same_requirement r) es ≡ None → IsUpdate g r (Some m) h → ArePlaced h (es ++ (r, v) ∷ [])
placed-push f g h es r v m size small are alike none put =
    AreStored-push same_requirement same_laws same_is (λ _. ⊤) (2 ^ 32) m f g h es r v size
    (omega (arith, small)) are alike none tt put
