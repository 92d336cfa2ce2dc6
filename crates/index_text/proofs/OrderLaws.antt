-- The numbers of SemVer versions are in the order of the versions, and each version that is written has one.
use Rattle.std.proofs.Common.{◌≡◌, ◌∙◌, ◌↔◌, ℕ, suc, zero, ◌+◌, ◌<◌, ◌^◌, Bool, true, false, cond, ◌||◌, List, [], ◌∷◌}
use Rattle.std.proofs.Common.{length, get_or, Option, None, Some, refl, ap, sym, subst, arith, inl, inr}
use Rattle.std.specs.Prelude.{option_and_then, not, nat_lt, ◌==◌, if◌then◌else◌}
use Rattle.std.specs.BTreeSet.{insert_key}
use Rattle.std.specs.Cmp.{IsTotalOrder, Equal-is, alike_right, tied_itself}
use Rattle.std.specs.List.{AllByRecursion, Contains, cons_option, filter_map, flat_map, fold}
use Rattle.std.specs.List.{position, position_or_len, list_any}
use Rattle.std.specs.FinMap.{nat_cmp-IsAntisymmetric}
use Rattle.std.specs.List.Sorted.{IsStrictlySortedBy}
use Rattle.std.specs.Ordering.{eq_by_cmp, is_eq, ordering_reverse, ordering_then, match_ordering}
use Rattle.std.specs.declared.cmp.Ordering.{Ordering}
use Rattle.std.specs.declared.cmp.Ordering.TheVariants.{Less, Equal, Greater}
use Rattle.std.proofs.lemmas.Bool.{cases_Bool, lt-ltb, ltb-true, eqb-true}
use Rattle.std.proofs.lemmas.Bool.Decides.{nat_tests}
use Rattle.std.proofs.lemmas.List.Elements.{Contains-append_left, Contains-append_right}
use Rattle.std.proofs.lemmas.List.Quantifiers.{position-Some}
use Rattle.std.proofs.lemmas.Option.{slice_get-get_or}
use Rattle.std.proofs.lemmas.Map.Keys.{Less-from_sorted, sorted_head, sorted_tail}
use Rattle.index_text.proofs.OrderLemmas.{version_total}
use Rattle.index_text.proofs.SemverTexts.{text_of_semver}
use Rattle.index_text.specs.Indexes.{NumberedWords, are_too_many}
use Rattle.index_text.specs.Formats.{Numbers, Semver, version_cmp, place_of, number_in, semver_of}
use Rattle.index_text.specs.Formats.{version_text, text_of_parts}
use Rattle.index_text.specs.Written.{format_of, says_semver, texts_in, written, written_in, written_on, with_versions}
use Rattle.script_text.specs.Numbers.{below}
use Rattle.semver.specs.OrderLaws.{pre-anti, build-anti}
use Rattle.semver.specs.Parse.{Parts}

same_parts : (p q : Parts) → p.0 ≡ q.0 → p.1 ≡ q.1 → p.2 ≡ q.2 → p.3 ≡ q.3 → p.4 ≡ q.4 → p ≡ q
same_parts p q a b c d e = (λ i. (a i, b i, c i, d i, e i))

below_is : (found : Option ℕ) {number : ℕ} → below (2 ^ 32) found ≡ Some number → found ≡ Some number
below_is None h = h
below_is (Some n) {number} h = by (nat_lt n (2 ^ 32)) h
  where
    by : (b : Bool) → (if b then Some n else None) ≡ Some number → Some n ≡ Some number
    by true e = e
    by false e = cc e

above : (i j : ℕ) → nat_lt i j ≡ false → (i == j) ≡ false → j < i
above i j h k = grind (arith, nat_tests)

module _ {K : Type 0} {R : K → K → Ordering} (o : IsTotalOrder R) where
  -- ---- places are in the order of what has them

  module _ (ks : List K) (sorted : IsStrictlySortedBy R ks) (a b : K) (i j : ℕ)
      (at-a : position (eq_by_cmp R a) ks ≡ Some i) (at-b : position (eq_by_cmp R b) ks ≡ Some j) where
    as_at_places : R a b ≡ R (get_or ks i a) (get_or ks j a)
    as_at_places =
        let e = (Equal-is (R a (get_or ks i a))).0 (position-Some (eq_by_cmp R a) ks i a at-a).1 in
        let f = (Equal-is (R b (get_or ks j a))).0 (position-Some (eq_by_cmp R b) ks j a at-b).1 in
        o.congr a (get_or ks i a) b e ∙ alike_right o b (get_or ks j a) (get_or ks i a) f

    pub lower_place : i < j → R a b ≡ Less
    lower_place h = as_at_places ∙ Less-from_sorted R ks i j a sorted h (position-Some (eq_by_cmp R b) ks j a at-b).0

    pub place_of_lower : R a b ≡ Less → i < j
    place_of_lower less =
        let at : R (get_or ks i a) (get_or ks j a) ≡ Less = sym as_at_places ∙ less in
        elim (cases_Bool (nat_lt i j)) [
          | inl low ↦ ltb-true i j low
          | inr other ↦ elim (cases_Bool (i == j)) [
            | inl same ↦
                let e : i ≡ j = eqb-true i j same in
                cc (sym at ∙ ap (λ n. R (get_or ks n a) (get_or ks j a)) e ∙ tied_itself o (get_or ks j a))
            | inr differs ↦
                let high : R (get_or ks j a) (get_or ks i a) ≡ Less =
                Less-from_sorted R ks j i a sorted (above i j other differs)
                (position-Some (eq_by_cmp R a) ks i a at-a).0 in
                cc (sym at ∙ o.antisymm (get_or ks i a) (get_or ks j a) ∙ ap ordering_reverse high)
          ]
        ]

  -- ---- an insertion keeps the order

  all_below : (x y : K) (ys : List K) → R x y ≡ Less → AllByRecursion (λ z. R y z ≡ Less) ys
      → AllByRecursion (λ z. R x z ≡ Less) ys
  all_below x y [] h a = tt
  all_below x y (z ∷ zs) h a = (o.trans x y z h a.0, all_below x y zs h a.1)

  all_with : (P : K → Type 0) (ks : List K) (k : K) → AllByRecursion P ks → P k → AllByRecursion P (insert_key R ks k)
  all_with P [] k a p = (p, tt)
  all_with P (x ∷ xs) k a p = by (R k x) (all_with P xs k a.1 p)
    where
      by : (r : Ordering) → AllByRecursion P (insert_key R xs k)
          → AllByRecursion P (match_ordering r (k ∷ x ∷ xs) (x ∷ xs) (x ∷ insert_key R xs k))
      by Less h = (p, a)
      by Equal h = a
      by Greater h = (a.0, h)

  sorted_cons : (k : K) (ks : List K) → AllByRecursion (λ y. R k y ≡ Less) ks → IsStrictlySortedBy R ks
      → IsStrictlySortedBy R (k ∷ ks)
  unfolding IsStrictlySortedBy
  sorted_cons k ks a s = (a, s)

  sorted_nil : IsStrictlySortedBy R []
  unfolding IsStrictlySortedBy
  sorted_nil = tt

  sorted_insert : (ks : List K) (k : K) → IsStrictlySortedBy R ks → IsStrictlySortedBy R (insert_key R ks k)
  sorted_insert [] k s = sorted_cons k [] tt s
  sorted_insert (x ∷ xs) k s = by (R k x) refl (sorted_insert xs k (sorted_tail R x xs s))
    where
      by : (r : Ordering) → R k x ≡ r → IsStrictlySortedBy R (insert_key R xs k)
          → IsStrictlySortedBy R (match_ordering r (k ∷ x ∷ xs) (x ∷ xs) (x ∷ insert_key R xs k))
      by Less e h = sorted_cons k (x ∷ xs) (e, all_below k x xs e (sorted_head R x xs s)) s
      by Equal e h = s
      by Greater e h = sorted_cons x (insert_key R xs k)
          (all_with (λ y. R x y ≡ Less) xs k (sorted_head R x xs s) (o.antisymm x k ∙ ap ordering_reverse e)) h

  pub sorted_with : (ks new : List K) → IsStrictlySortedBy R ks → IsStrictlySortedBy R (fold (insert_key R) ks new)
  sorted_with ks [] s = s
  sorted_with ks (k ∷ new) s = sorted_with (insert_key R ks k) new (sorted_insert ks k s)

  -- ---- what is inserted is there

  or_true : (a : Bool) → (a || true) ≡ true
  or_true true = refl
  or_true false = refl

  inserted_is_there : (ks : List K) (k : K) → list_any (eq_by_cmp R k) (insert_key R ks k) ≡ true
  inserted_is_there [] k = ap (λ r. is_eq r || false) (tied_itself o k)
  inserted_is_there (x ∷ xs) k = by (R k x) refl (inserted_is_there xs k)
    where
      by : (r : Ordering) → R k x ≡ r → list_any (eq_by_cmp R k) (insert_key R xs k) ≡ true
          → list_any (eq_by_cmp R k) (match_ordering r (k ∷ x ∷ xs) (x ∷ xs) (x ∷ insert_key R xs k)) ≡ true
      by Less e there = ap (λ r. is_eq r || list_any (eq_by_cmp R k) (x ∷ xs)) (tied_itself o k)
      by Equal e there = ap (λ r. is_eq r || list_any (eq_by_cmp R k) xs) e
      by Greater e there = ap (λ b. is_eq (R k x) || b) there ∙ or_true (is_eq (R k x))

  stays_there : (p : K → Bool) (ks : List K) (k : K) → list_any p ks ≡ true → list_any p (insert_key R ks k) ≡ true
  stays_there p [] k h = cc
  stays_there p (x ∷ xs) k h = by (R k x) (p x) refl (stays_there p xs k)
    where
      later : (b : Bool) → p x ≡ b → (list_any p xs ≡ true → list_any p (insert_key R xs k) ≡ true)
          → (b || list_any p (insert_key R xs k)) ≡ true
      later true e stays = refl
      later false e stays = stays (sym (ap (λ b. b || list_any p xs) e) ∙ h)

      by : (r : Ordering) (b : Bool) → p x ≡ b → (list_any p xs ≡ true → list_any p (insert_key R xs k) ≡ true)
          → list_any p (match_ordering r (k ∷ x ∷ xs) (x ∷ xs) (x ∷ insert_key R xs k)) ≡ true
      by Less b e stays = ap (λ t. p k || t) h ∙ or_true (p k)
      by Equal b e stays = h
      by Greater b e stays = ap (λ t. t || list_any p (insert_key R xs k)) e ∙ later b e stays

  all_stay : (p : K → Bool) (ks new : List K) → list_any p ks ≡ true → list_any p (fold (insert_key R) ks new) ≡ true
  all_stay p ks [] h = h
  all_stay p ks (k ∷ new) h = all_stay p (insert_key R ks k) new (stays_there p ks k h)

  all_there : (ks new : List K) (x : K) (i : ℕ) → i < length new → get_or new i x ≡ x
      → list_any (eq_by_cmp R x) (fold (insert_key R) ks new) ≡ true
  all_there ks [] x i h e = absurd (omega arith)
  all_there ks (k ∷ new) x zero h e = all_stay (eq_by_cmp R x) (insert_key R ks k) new
      (ap (λ y. list_any (eq_by_cmp R x) (insert_key R ks y)) e ∙ inserted_is_there ks x)
  all_there ks (k ∷ new) x (suc i) h e = all_there (insert_key R ks k) new x i (omega arith) e

-- what is there has a place
first_place : {X : Type 0} (p : X → Bool) (xs : List X) → list_any p xs ≡ true → position_or_len p xs < length xs
first_place p [] h = cc
first_place p (x ∷ xs) h = by (p x) refl (first_place p xs)
  where
    by : (b : Bool) → p x ≡ b → (list_any p xs ≡ true → position_or_len p xs < length xs)
        → position_or_len p (x ∷ xs) < length (x ∷ xs)
    by true e rest =
        let none = ap (λ t. cond (not t) (1 + position_or_len p xs) 0) e in
        omega (arith, none)
    by false e rest =
        let more = ap (λ t. cond (not t) (1 + position_or_len p xs) 0) e in
        omega (arith, more, rest (sym (ap (λ t. t || list_any p xs) e) ∙ h))

has_place : {X : Type 0} (p : X → Bool) (xs : List X) → list_any p xs ≡ true
    → position p xs ≡ Some (position_or_len p xs)
has_place p xs h = ap (λ b. cond b (Some (position_or_len p xs)) None)
    (lt-ltb (position_or_len p xs) (length xs) (first_place p xs h))

-- ---- elements of parts

kept : {Y : Type 0} (found : Option Y) (ys : List Y) (y : Y) → Contains ys y → Contains (cons_option found ys) y
kept None ys y h = h
kept (Some x) ys y h = (suc h.0, omega (arith, h.1), h.2)

mapped : {X Y : Type 0} (f : X → Option Y) (xs : List X) (x : X) (y : Y) (i : ℕ) → i < length xs → get_or xs i x ≡ x
    → f x ≡ Some y → Contains (filter_map f xs) y
mapped f [] x y i h e is = absurd (omega arith)
mapped f (z ∷ xs) x y zero h e is =
    subst (λ found. Contains (cons_option found (filter_map f xs)) y) (sym (ap f e ∙ is)) (zero, omega arith, refl)
mapped f (z ∷ xs) x y (suc i) h e is = kept (f z) (filter_map f xs) y (mapped f xs x y i (omega arith) e is)

joined_has : {X Y : Type 0} (f : X → List Y) (xs : List X) (x : X) (y : Y) (i : ℕ) → i < length xs → get_or xs i x ≡ x
    → Contains (f x) y → Contains (flat_map f xs) y
joined_has f [] x y i h e is = absurd (omega arith)
joined_has f (z ∷ xs) x y zero h e is =
    Contains-append_left (f z) (flat_map f xs) y (subst (λ w. Contains (f w) y) (sym e) is)
joined_has f (z ∷ xs) x y (suc i) h e is =
    Contains-append_right (f z) (flat_map f xs) y (joined_has f xs x y i (omega arith) e is)

-- ---- the versions of an index

-- the versions of an index are in ascending order, each once
pub written_ascends : (lines : List NumberedWords) → IsStrictlySortedBy version_cmp (with_versions [] (written lines))
written_ascends lines = sorted_with version_total [] (written lines) (sorted_nil version_total)

-- a version has a lower number than another exactly if it is lower
pub numbers_rise : (known : List Parts) → IsStrictlySortedBy version_cmp known → (a b : Parts) (i j : ℕ)
    → place_of known a ≡ Some i → place_of known b ≡ Some j → (i < j) ↔ (version_cmp a b ≡ Less)
numbers_rise known sorted a b i j at-a at-b = (
  lower_place version_total known sorted a b i j at-a at-b,
  place_of_lower version_total known sorted a b i j at-a at-b,
)

-- a version that is written in an index has a number
pub written_has_number : (lines : List NumberedWords) (line : NumberedWords) (words : List (List ℕ))
    (word text : List ℕ) (version : Parts)
    → says_semver lines ≡ true → length (with_versions [] (written lines)) < 2 ^ 32
    → Contains lines line → line.words ≡ Some words → are_too_many words ≡ false
    → Contains words word → Contains (texts_in word) text
    → semver_of text ≡ Some version
    → (number : ℕ) × (number_in (format_of lines) text ≡ Some number)
written_has_number lines line words word text version semver few in-lines says short in-words in-word is =
    let known = with_versions [] (written lines) in
    let of-word = mapped semver_of (texts_in word) text version in-word.0 in-word.1 in-word.2 is in
    let of-words = joined_has written_in words word version in-words.0 in-words.1 in-words.2 of-word in
    let of-line : Contains (written_on line.words) version =
    subst (λ versions. Contains versions version)
    (sym (ap written_on says ∙ ap (λ b. if b then [] else flat_map written_in words) short)) of-words in
    let of-lines = joined_has (λ (l : NumberedWords). written_on l.words) lines line version in-lines.0 in-lines.1
    in-lines.2 of-line in
    let there = all_there version_total [] (written lines) version of-lines.0 of-lines.1 of-lines.2 in
    let number = position_or_len (eq_by_cmp version_cmp version) known in
    let low : number < 2 ^ 32 = omega (arith, first_place (eq_by_cmp version_cmp version) known there) in (
      number,
      ap (λ b. number_in (if b then Semver known else Numbers) text) semver
          ∙ ap (λ v. below (2 ^ 32) (option_and_then (place_of known) v)) is
          ∙ ap (below (2 ^ 32)) (has_place (eq_by_cmp version_cmp version) known there)
          ∙ ap (λ b. if b then Some number else None) (lt-ltb number (2 ^ 32) low),
    )

then_equal : (r s : Ordering) → ordering_then r s ≡ Equal → (r ≡ Equal) × (s ≡ Equal)
then_equal Less s h = cc h
then_equal Equal s h = (refl, h)
then_equal Greater s h = cc h

-- versions that tie are the same
same_version : (p q : Parts) → version_cmp p q ≡ Equal → p ≡ q
unfolding version_cmp
same_version p q h =
    let major = then_equal _ _ h in
    let minor = then_equal _ _ major.1 in
    let patch = then_equal _ _ minor.1 in
    let texts = then_equal _ _ patch.1 in
    same_parts p q (nat_cmp-IsAntisymmetric p.0 q.0 major.0) (nat_cmp-IsAntisymmetric p.1 q.1 minor.0)
    (nat_cmp-IsAntisymmetric p.2 q.2 patch.0) (pre-anti p.3 q.3 texts.0) (build-anti p.4 q.4 texts.1)

-- the text of a version's number is the word that says the version
pub text_of_number : (known : List Parts) (word : List ℕ) (number : ℕ)
    → number_in (Semver known) word ≡ Some number → version_text (Semver known) number ≡ word
text_of_number known word number h =
    by (semver_of word) refl (below_is (option_and_then (place_of known) (semver_of word)) h)
  where
    by : (found : Option Parts) → semver_of word ≡ found
        → option_and_then (place_of known) (semver_of word) ≡ Some number
        → version_text (Semver known) number ≡ word
    by None e at = cc (sym (ap (option_and_then (place_of known)) e) ∙ at)
    by (Some version) e at =
        let place = position-Some (eq_by_cmp version_cmp version) known number version
        (sym (ap (option_and_then (place_of known)) e) ∙ at) in
        let same : version ≡ get_or known number version =
        same_version version (get_or known number version)
        ((Equal-is (version_cmp version (get_or known number version))).0 place.1) in
        ap text_of_parts (slice_get-get_or known number version place.0 ∙ ap Some (sym same))
        ∙ text_of_semver word version e
