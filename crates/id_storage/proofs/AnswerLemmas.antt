-- The places of questions, and the answers that stand there.
use Rattle.std.proofs.Common.{◌≡◌, ◌≢◌, ℕ, suc, ◌+◌, ◌<◌, ◌≤◌, ◌^◌, ◌||◌, Bool, true, false, not, cond}
use Rattle.std.proofs.Common.{ltb, min, leb, set, true≢false, List, [], ◌∷◌, ◌++◌, length, length-append}
use Rattle.std.proofs.Common.{slice_get, is_some, Option, None, Some, refl, arith, sym, ◌∙◌, ap, subst}
use Rattle.std.specs.Option.{option_map, unwrap_or}
use Rattle.std.specs.Cmp.{IsEquivalence}
use Rattle.std.specs.List.{All, IsDistinct, position_from, position_or_len, list_any}
use Rattle.std.specs.Map.{lookup, keys_of, values_of, set_value}
use Rattle.std.proofs.lemmas.Bool.Decides.{nat_tests}
use Rattle.std.proofs.lemmas.Iterator.Adapters.{position_from-zero}
use Rattle.std.proofs.lemmas.List.{map-append}
use Rattle.std.proofs.lemmas.List.Elements.{All-nil, All-push, All-same}
use Rattle.std.proofs.lemmas.Map.{keys-set_value, length-set_value}
use Rattle.std.proofs.lemmas.Option.{slice_get-map}
use Rattle.std.proofs.lemmas.Map.Entries.{length-keys_of}
use Rattle.std.proofs.lemmas.Map.Keys.{IsDistinct-push}
use Rattle.typed_ids.specs.TotalMaps.{IsUpdate, SameValues}
use Rattle.id_storage.specs.StoredAnswers.{place_of, lacks_answer, AreStored}

module _ {K V : Type 0} (test : K → Bool) where
  -- a question has a place exactly where it has an answer
  pub has_place : (n : ℕ) (kept : List (K × V)) → is_some (position_from test n (keys_of kept))
      ≡ is_some (lookup test kept)
  has_place n [] = refl
  has_place n (e ∷ kept) =
      elim (test e.0) as (λ b. is_some (cond b (Some n) (position_from test (n + 1) (keys_of kept)))
      ≡ is_some (cond b (Some e.1) (lookup test kept)))
      [ true ↦ refl | false ↦ has_place (n + 1) kept ]

  -- it is among the questions exactly where it has an answer
  pub is_among : (kept : List (K × V)) → list_any test (keys_of kept) ≡ is_some (lookup test kept)
  is_among [] = refl
  is_among (e ∷ kept) =
      elim (test e.0) as (λ b. (b || list_any test (keys_of kept)) ≡ is_some (cond b (Some e.1) (lookup test kept)))
      [ true ↦ refl | false ↦ is_among kept ]

  -- the answer stands in the question's place
  answer_in_place : (kept : List (K × V)) → lookup test kept
      ≡ slice_get (values_of kept) (position_or_len test (keys_of kept))
  answer_in_place [] = refl
  answer_in_place (e ∷ kept) =
      elim (test e.0) as (λ b. cond b (Some e.1) (lookup test kept) ≡
      slice_get (values_of (e ∷ kept)) (cond (not b) (1 + position_or_len test (keys_of kept)) 0)) [
        | true ↦ refl
        | false ↦
            let next : suc (position_or_len test (keys_of kept)) ≡ 1 + position_or_len test (keys_of kept) =
            omega arith in
            answer_in_place kept ∙ ap (slice_get (values_of (e ∷ kept))) next
      ]

-- ---- places in a list of keys

module _ {K : Type 0} (test : K → Bool) where
  -- a place that is there is the first that passes, and within the list
  pub place_is : (p : ℕ) (keys : List K) → position_from test 0 keys ≡ Some p → (position_or_len test keys ≡ p)
      × (p < length keys)
  place_is p keys at = by_test (ltb (position_or_len test keys) (length keys)) refl (position_from-zero test keys ∙ at)
    where
      by_test : (b : Bool) → ltb (position_or_len test keys) (length keys) ≡ b →
          cond b (Some (position_or_len test keys)) None ≡ Some p
          → (position_or_len test keys ≡ p) × (p < length keys)
      by_test true t e =
          let same : position_or_len test keys ≡ p = cc in
          (same, grind (arith, nat_tests, t, same))
      by_test false t e = (let no : ⊥ = cc in absurd no)

  -- a key more at the end, which fails, has no place
  pub place-push_other : (n : ℕ) (keys : List K) (key : K) → test key ≡ false
      → position_from test n (keys ++ key ∷ []) ≡ position_from test n keys
  place-push_other n [] key fails = ap (λ b. cond b (Some n) None) fails
  place-push_other n (k ∷ keys) key fails = ap (cond (test k) (Some n)) (place-push_other (n + 1) keys key fails)

  -- one that passes has its place there, if it is the first
  pub place-push_new : (n m : ℕ) (keys : List K) (key : K) → m ≡ n + length keys → position_from test n keys ≡ None →
      test key ≡ true
      → position_from test n (keys ++ key ∷ []) ≡ Some m
  place-push_new n m [] key e none passes =
      let same : n ≡ m = omega arith in
      ap (λ b. cond b (Some n) None) passes ∙ ap Some same
  place-push_new n m (k ∷ keys) key e none passes =
      (elim (test k) as (λ b. cond b (Some n) (position_from test (n + 1) keys) ≡ None
      → cond b (Some n) (position_from test (n + 1) (keys ++ key ∷ [])) ≡ Some m) [
        | true ↦ λ h. (let no : ⊥ = cc in absurd no)
        | false ↦ λ h. place-push_new (n + 1) m keys key (omega arith) h passes
      ]) none

-- what isn't some is none
none_from : {X : Type 0} (o : Option X) → is_some o ≡ false → o ≡ None
none_from None e = refl
none_from (Some x) e = cc

-- ---- answers that are kept

-- the answer stands in the question's place
pub answer_at : {K V : Type 0} (same : K → K → Bool) (kept : List (K × V)) (key : K) (p : ℕ) →
    place_of same kept key ≡ Some p
    → slice_get (values_of kept) p ≡ lookup (same key) kept
answer_at same kept key p at =
    sym (answer_in_place (same key) kept ∙ ap (slice_get (values_of kept)) (place_is (same key) p (keys_of kept) at).0)

-- and so there is one
pub some_answer : {K V : Type 0} (same : K → K → Bool) (kept : List (K × V)) (key : K) (p : ℕ) →
    place_of same kept key ≡ Some p
    → true ≡ is_some (lookup (same key) kept)
some_answer same kept key p at = sym (ap is_some at) ∙ has_place (same key) 0 kept

-- a question without a place has no answer
pub no_answer : {K V : Type 0} (same : K → K → Bool) (kept : List (K × V)) (key : K)
    → place_of same kept key ≡ None → lookup (same key) kept ≡ None
no_answer same kept key none = none_from _ (sym (has_place (same key) 0 kept) ∙ ap is_some none)

-- a place is below the limit, and a slot's number
pub place_below : {K V : Type 0} (same : K → K → Bool) (IsId : K → Type 0) (limit : ℕ) (slots : K →
    Option ℕ) (kept : List (K × V)) (key : K) (p : ℕ)
    → AreStored same IsId limit slots kept → place_of same kept key ≡ Some p → (p < length kept) × (p < limit)
place_below same IsId limit slots kept key p are at =
    let within : p < length (keys_of kept) = (place_is (same key) p (keys_of kept) at).1 in
    let size : length (keys_of kept) ≡ length kept = length-keys_of kept in
    let few : length kept ≤ min limit (2 ^ 32) = are.few in
    (omega arith, omega arith)

-- the same places belong to the same answers
pub AreStored-same : {K V : Type 0} (same : K → K → Bool) (IsId : K → Type 0) (limit : ℕ) (f g : K →
    Option ℕ) (kept : List (K × V)) → SameValues f g
    → AreStored same IsId limit f kept → AreStored same IsId limit g kept
AreStored-same same IsId limit f g kept alike are =
    record { agrees = λ key. alike key ∙ are.agrees key; few = are.few; distinct = are.distinct; ids = are.ids }

-- a question more, which has no answer yet, differs from all others
pub distinct-push : {K V : Type 0} (same : K → K → Bool) → IsEquivalence same → (kept : List (K × V)) (key : K)
    → IsDistinct same (keys_of kept) → lookup (same key) kept ≡ None → IsDistinct same (keys_of kept ++ key ∷ [])
distinct-push same laws kept key distinct none =
    IsDistinct-push laws (keys_of kept) key distinct (is_among (same key) kept ∙ ap is_some none)

-- an answer more, for which the next place was put
pub AreStored-push : {K V : Type 0} (same : K → K → Bool) → IsEquivalence same → ((a b : K) → same a b ≡ true → a ≡ b)
    → (IsId : K → Type 0) (limit m : ℕ) (f g h : K → Option ℕ) (kept : List (K × V)) (key : K) (value : V) →
    m ≡ length kept → m < min limit (2 ^ 32)
    → AreStored same IsId limit f kept → SameValues f g → lookup (same key) kept ≡ None → IsId key →
    IsUpdate g key (Some m) h
    → AreStored same IsId limit h (kept ++ (key, value) ∷ [])
AreStored-push {K} {V} same laws is_sameness IsId limit m f g h kept key value size below are alike none id put =
    record {
      agrees = λ other. by_test other (same other key) refl ∙ sym (ap (position_from (same other) 0) pushed);
      few = simp length-append (omega arith);
      distinct = subst (IsDistinct same) (sym pushed) (distinct-push same laws kept key are.distinct none);
      ids = All-same IsId (keys_of (kept ++ (key, value) ∷ [])) (keys_of kept ++ key ∷ []) pushed
          (All-push IsId (keys_of kept) key are.ids id);
    }
  where
    pushed : keys_of (kept ++ (key, value) ∷ []) ≡ keys_of kept ++ key ∷ []
    pushed = map-append (λ e. e.0) kept ((key, value) ∷ [])

    new : place_of same kept key ≡ None
    new = none_from _ (has_place (same key) 0 kept ∙ ap is_some none)

    last : m ≡ 0 + length (keys_of kept)
    last = let e : length (keys_of kept) ≡ length kept = length-keys_of kept in omega arith

    by_test : (other : K) (b : Bool) → same other key ≡ b →
        h other ≡ position_from (same other) 0 (keys_of kept ++ key ∷ [])
    by_test other true t =
        subst (λ k. h k ≡ position_from (same k) 0 (keys_of kept ++ key ∷ [])) (sym (is_sameness other key t))
        (put.0 ∙ sym (place-push_new (same key) 0 m (keys_of kept) key last new (laws.refl key)))
    by_test other false t =
        let apart : other ≢ key = λ e. (let no : true ≡ false = sym (laws.refl key) ∙ ap (λ k. same k key) (sym e)
        ∙ t in let bad : ⊥ = cc in bad) in
        put.1 other apart ∙ alike other ∙ are.agrees other ∙ sym (place-push_other (same other) 0 (keys_of kept) key t)

-- ---- when an answer can be kept

-- where no more than 2^32 ids differ, fewer questions than that have answers while one has none
pub fewer_kept : {K V : Type 0} (same : K → K → Bool) → IsEquivalence same → (IsId : K → Type 0) (are_many : Bool)
    → (are_many ≡ false → (ids : List K) → All IsId ids → IsDistinct same ids → length ids ≤ 2 ^ 32)
    → (limit : ℕ) (slots : K → Option ℕ) (kept : List (K × V)) (key : K) → AreStored same IsId limit slots kept →
    IsId key
    → lookup (same key) kept ≡ None → are_many ≡ false → length kept < 2 ^ 32
fewer_kept same laws IsId are_many law limit slots kept key are id none few =
    let within : length (keys_of kept ++ key ∷ []) ≤ 2 ^ 32 =
    law few (keys_of kept ++ key ∷ []) (All-push IsId (keys_of kept) key are.ids id)
    (distinct-push same laws kept key are.distinct none) in
    omega (arith, length-append (keys_of kept) (key ∷ []), length-keys_of kept)

-- ---- another value in the place of an answer

-- the value stands where the answer stood
set_in_place : {K V : Type 0} (test : K → Bool) (kept : List (K × V)) (x : K × V) (value : V) →
    slice_get kept (position_or_len test (keys_of kept)) ≡ Some x
    → set kept (position_or_len test (keys_of kept)) (x.0, value) ≡ set_value test kept value
set_in_place test [] x value is = refl
set_in_place {K} {V} test (e ∷ kept) x value is =
    (elim (test e.0) as (λ b. slice_get (e ∷ kept) (cond (not b) (1 + position_or_len test (keys_of kept)) 0) ≡ Some x
    → set (e ∷ kept) (cond (not b) (1 + position_or_len test (keys_of kept)) 0) (x.0, value)
    ≡ cond b ((e.0, value) ∷ kept) (e ∷ set_value test kept value)) [
      | true ↦ λ h. ap (λ (o : Option (K × V)). unwrap_or (option_map (λ (y : K × V). (y.0, value) ∷ kept) o) [])
          (sym h)
      | false ↦ λ h.
          let next : suc (position_or_len test (keys_of kept)) ≡ 1 + position_or_len test (keys_of kept) =
          omega arith in
          sym (ap (λ n. set (e ∷ kept) n (x.0, value)) next)
          ∙ ap (λ l. e ∷ l) (set_in_place test kept x value (ap (slice_get (e ∷ kept)) next ∙ h))
    ]) is

pub answer_replaced : {K V : Type 0} (same : K → K → Bool) (kept : List (K × V)) (key : K) (p : ℕ) (x : K
    × V) (value : V) → place_of same kept key ≡ Some p
    → slice_get kept p ≡ Some x → set kept p (x.0, value) ≡ set_value (same key) kept value
answer_replaced same kept key p x value at is =
    subst (λ q. slice_get kept q ≡ Some x → set kept q (x.0, value) ≡ set_value (same key) kept value)
    (place_is (same key) p (keys_of kept) at).0
    (set_in_place (same key) kept x value) is

-- what stood there was the answer
pub answer_earlier : {K V : Type 0} (same : K → K → Bool) (kept : List (K × V)) (key : K) (p : ℕ) (x : K × V) →
    place_of same kept key ≡ Some p
    → slice_get kept p ≡ Some x → lookup (same key) kept ≡ Some x.1
answer_earlier same kept key p x at is =
    sym (answer_at same kept key p at) ∙ slice_get-map (λ e. e.1) kept p ∙ ap (option_map (λ e. e.1)) is

-- the questions are the same
pub AreStored-replaced : {K V : Type 0} (same : K → K → Bool) (IsId : K → Type 0) (limit : ℕ) (slots : K → Option ℕ)
    (kept : List (K × V)) (test : K → Bool) (value : V)
    → AreStored same IsId limit slots kept → AreStored same IsId limit slots (set_value test kept value)
AreStored-replaced same IsId limit slots kept test value are =
    let questions = sym (keys-set_value test kept value) in
    record {
      agrees = λ other. are.agrees other ∙ ap (position_from (same other) 0) questions;
      few = subst (λ n. n ≤ min limit (2 ^ 32)) (sym (length-set_value test kept value)) are.few;
      distinct = subst (IsDistinct same) questions are.distinct;
      ids = subst (All IsId) questions are.ids;
    }

-- a question with an answer has a place
pub answer_has_place : {K V : Type 0} (same : K → K → Bool) (kept : List (K × V)) (key : K) →
    is_some (lookup (same key) kept) ≡ true
    → place_of same kept key ≢ None
answer_has_place same kept key some none =
    absurd (true≢false (sym some ∙ sym (has_place (same key) 0 kept) ∙ ap is_some none))

-- no answers
pub none_kept : {K V : Type 0} (same : K → K → Bool) (IsId : K → Type 0) (limit : ℕ) (slots : K → Option ℕ) →
    ((key : K) → slots key ≡ None)
    → AreStored {K = K} {V = V} same IsId limit slots []
unfolding IsDistinct
none_kept same IsId limit slots none = record { agrees = none; few = omega arith; distinct = tt; ids = All-nil IsId }
