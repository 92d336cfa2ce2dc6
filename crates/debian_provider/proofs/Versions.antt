-- Names have their versions as the pool grows.
use Rattle.std.proofs.Common.{◌≡◌, ◌∙◌, ℕ, zero, suc, ◌+◌, ◌<◌, ◌≤◌, List, [], ◌∷◌, ◌++◌, Option, None, Some, length}
use Rattle.std.proofs.Common.{ap, arith, get_or, refl, subst, sym, inl, inr}
use Rattle.std.specs.Prelude.{All}
use Rattle.std.proofs.lemmas.Bool.{cases_lt, cases_order}
use Rattle.std.proofs.lemmas.List.{length-append}
use Rattle.std.proofs.lemmas.List.Elements.{All-cons, All-head, All-nil, All-tail, All-weaker}
use Rattle.std.proofs.lemmas.Option.{none-some, same_Some, slice_get_past}
use Rattle.debian_provider.proofs.Words.{AllZip, Any, AreNamed, Contains, Global, HasMoreSets, HasVersions, Ids, IsAt}
use Rattle.debian_provider.proofs.Words.{IsExtended, IsLater, IsNameAdded, IsNamed, IsPlaceOf, IsVersion, NameText}
use Rattle.debian_provider.proofs.Words.{nothing, option_map, place_in, plain_name, Reached, Rules, slice_get, Solvable}
use Rattle.debian_provider.proofs.Words.{unwrap_or, Vec, versions_at}
use Rattle.debian_provider.proofs.Named.{named_still, seen_still}

itself : {X : Type 0} (o : Option X) → option_map (λ (y : X). y) o ≡ o
itself None = refl
itself (Some y) = refl

-- what stood at a place stands there
pub still_at : {X : Type 0} (old new : List X) (place : ℕ) (x : X) → IsExtended old new
    → slice_get old place ≡ Some x → slice_get new place ≡ Some x
still_at {X} old new place x h at = sym (itself (slice_get new place))
    ∙ seen_still (λ (y : X). y) old new place x h (itself (slice_get old place) ∙ at)

module _ (p q : Ids) (later : IsLater p q) where
  pub place_still : (s place : ℕ) → place_in p s ≡ Some place → place_in q s ≡ Some place
  place_still s place h = seen_still (λ (x : Solvable ℕ). x.payload) p.solvables q.solvables s place later.solvables h

  -- the name of a solvable that has a place
  name_at : (o r : Option (Solvable ℕ)) (place : ℕ) → option_map (λ (x : Solvable ℕ). x.payload) o ≡ Some place
      → ((x : Solvable ℕ) → o ≡ Some x → r ≡ Some x)
      → unwrap_or (option_map (λ (x : Solvable ℕ). x.name) r) 0 ≡ unwrap_or
      (option_map (λ (x : Solvable ℕ). x.name) o) 0
  name_at None r place h each = cc
  name_at (Some x) r place h each =
      ap (λ (o : Option (Solvable ℕ)). unwrap_or (option_map (λ (x : Solvable ℕ). x.name) o) 0) (each x refl)

  pub solvable_still : (s : ℕ) (x : Solvable ℕ) → slice_get p.solvables s ≡ Some x → slice_get q.solvables s ≡ Some x
  solvable_still s x h = still_at p.solvables q.solvables s x later.solvables h

  module _ (rules : Rules) where
    pub version_still : (name s : ℕ) → IsVersion rules p name s → IsVersion rules q name s
    version_still name s h = record {
      is_of = name_at (slice_get p.solvables s) (slice_get q.solvables s) h.place h.at (solvable_still s) ∙ h.is_of;
      place = h.place;
      at = place_still s h.place h.at;
      one = h.one;
      is = h.is;
      named = named_still p q later name _ h.named;
    }

    pub versions_still : (name : NameText) (solvables : List ℕ) → HasVersions rules p name solvables
        → HasVersions rules q name solvables
    versions_still name solvables h place is =
        let found = h place is in
        (found.0, found.1, found.2, found.3, place_still found.1 place found.4)

-- with the same names
pub named_with_sets : (rules : Rules) (old new : Reached) → HasMoreSets old new → AreNamed rules old → AreNamed
    rules new
named_with_sets rules old new more h =
    let later = more.later in
    record {
      in_step = ap (λ v. length v.items) more.versions ∙ h.in_step ∙ ap length (sym more.names);
      all = λ id name named.
          subst (λ v. HasVersions rules new.pool name (versions_at v.items id)) (sym more.versions)
          (versions_still old.pool new.pool later rules name (versions_at old.versions.items id)
          (h.all id name (subst (λ names. option_map plain_name (slice_get names id) ≡ Some name) more.names named)));
      each = λ id lt.
          subst (λ v. All (IsVersion rules new.pool id) (versions_at v.items id)) (sym more.versions)
          (All-weaker (IsVersion rules old.pool id) (IsVersion rules new.pool id)
          (version_still old.pool new.pool later rules id) (versions_at old.versions.items id)
          (h.each id (subst (λ v. id < length v.items) more.versions lt)));
    }

-- A NAME THAT COMES IN

pub zip_weaker : {A B : Type 0} (P Q : A → B → Type 0) → ((a : A) (b : B) → P a b → Q a b) → (xs : List A) (ys : List B)
    → AllZip P xs ys → AllZip Q xs ys
zip_weaker P Q each [] [] h = h
zip_weaker P Q each [] (y ∷ ys) h = h
zip_weaker P Q each (x ∷ xs) [] h = h
zip_weaker P Q each (x ∷ xs) (y ∷ ys) h = (each x y h.0, zip_weaker P Q each xs ys h.1)

pub zip_push : {A B : Type 0} (P : A → B → Type 0) (xs : List A) (ys : List B) (x : A) (y : B) → AllZip P xs ys → P x y
    → AllZip P (xs ++ x ∷ []) (ys ++ y ∷ [])
zip_push P [] [] x y h new = (new, h)
zip_push P [] (b ∷ ys) x y h new = absurd h
zip_push P (a ∷ xs) [] x y h new = absurd h
zip_push P (a ∷ xs) (b ∷ ys) x y h new = (h.0, zip_push P xs ys x y h.1 new)

module _ {A : Type 0} where
  versions_end : (xs : List (Vec ℕ A)) (v : Vec ℕ A) → versions_at (xs ++ v ∷ []) (length xs) ≡ v.items
  versions_end [] v = refl
  versions_end (x ∷ xs) v = versions_end xs v

  versions_before : (xs : List (Vec ℕ A)) (v : Vec ℕ A) (n : ℕ) → n < length xs
      → versions_at (xs ++ v ∷ []) n ≡ versions_at xs n
  versions_before [] v n lt = absurd (omega arith)
  versions_before (x ∷ xs) v zero lt = refl
  versions_before (x ∷ xs) v (suc n) lt = versions_before xs v n (omega arith)

before : {X : Type 0} (old more : List X) (k : ℕ) → k < length old → slice_get (old ++ more) k ≡ slice_get old k
before [] more k lt = absurd (omega arith)
before (x ∷ old) more zero lt = refl
before (x ∷ old) more (suc k) lt = before old more k (omega arith)

module _ (pool : Ids) (id : ℕ) where
  at_place : (s place : ℕ) → IsAt pool id s place → place_in pool s ≡ Some place
  at_place s place h = ap (option_map (λ (x : Solvable ℕ). x.payload)) h

  -- a solvable stands for each of the places
  zip_any : (solvables places : List ℕ) → AllZip (IsAt pool id) solvables places → (place k : ℕ) → k < length places
      → get_or places k place ≡ place → Any (λ s. place_in pool s ≡ Some place) solvables
  zip_any [] [] h place k lt is = absurd (omega arith)
  zip_any [] (p ∷ places) h place k lt is = absurd h
  zip_any (s ∷ solvables) [] h place k lt is = absurd h
  zip_any (s ∷ solvables) (p ∷ places) h place zero lt is =
      (zero, s, omega arith, refl, at_place s p h.0 ∙ ap Some is)
  zip_any (s ∷ solvables) (p ∷ places) h place (suc k) lt is =
      let found = zip_any solvables places h.1 place k (omega arith) is in
      (suc found.0, found.1, omega (arith, found.2), found.3, found.4)

  module _ (rules : Rules) (name : NameText) (named : IsNamed pool id name) where
    one_version : (s place : ℕ) → IsAt pool id s place → IsPlaceOf rules name place → IsVersion rules pool id s
    one_version s place h is = record {
      is_of = ap (λ (o : Option (Solvable ℕ)). unwrap_or (option_map (λ (x : Solvable ℕ). x.name) o) 0) h;
      place = place;
      at = at_place s place h;
      one = is.one;
      is = is.at;
      named = subst (λ (n : NameText). IsNamed pool id n) (sym is.named) named;
    }

    zip_all : (solvables places : List ℕ) → AllZip (IsAt pool id) solvables places → All (IsPlaceOf rules name) places
        → All (IsVersion rules pool id) solvables
    zip_all [] places h all = All-nil (IsVersion rules pool id)
    zip_all (s ∷ solvables) [] h all = absurd h
    zip_all (s ∷ solvables) (p ∷ places) h all =
        All-cons (IsVersion rules pool id) s solvables
        (one_version s p h.0 (All-head (IsPlaceOf rules name) p places all))
        (zip_all solvables places h.1 (All-tail (IsPlaceOf rules name) p places all))

named_within : (pool : Ids) (id : ℕ) (name : NameText) → IsNamed pool id name → id < length pool.names
named_within pool id name h = elim (cases_lt id (length pool.names)) [
  | inl lt ↦ lt
  | inr past ↦ absurd (none-some name (ap (option_map plain_name) (sym (slice_get_past pool.names id past)) ∙ h))
]

pub name_added : (old new : Reached) (places : List ℕ) (id : ℕ) (v : Vec ℕ Global) → id ≡ length old.versions.items
    → length new.pool.names ≤ length old.pool.names + 1 → new.versions.items ≡ old.versions.items ++ v ∷ []
    → AllZip (IsAt new.pool id) v.items places → IsNameAdded old new places id
name_added old new places id v is names pushed at = record {
  is = is;
  names = names;
  one_more = omega (arith, ap length pushed, length-append old.versions.items (v ∷ []));
  at = subst (λ (l : List ℕ). AllZip (IsAt new.pool id) l places)
      (sym (ap (λ n. versions_at new.versions.items n) is
      ∙ ap (λ (vs : List (Vec ℕ Global)). versions_at vs (length old.versions.items)) pushed
      ∙ versions_end old.versions.items v)) at;
  others = λ n lt. ap (λ (vs : List (Vec ℕ Global)). versions_at vs n) pushed
      ∙ versions_before old.versions.items v n lt;
}

module _ (rules : Rules) (old new : Reached) (later : IsLater old.pool new.pool) (h : AreNamed rules old) (id : ℕ)
    (name : NameText) (named : IsNamed new.pool id name) (places : List ℕ) (added : IsNameAdded old new places id)
    (all : (place : ℕ) → IsPlaceOf rules name place → Contains places place)
    (each : All (IsPlaceOf rules name) places) where
  new_all : (other : ℕ) (text : NameText) → IsNamed new.pool other text
      → HasVersions rules new.pool text (versions_at new.versions.items other)
  new_all other text is =
      elim (cases_order other (length old.versions.items)) [
        | inl same ↦
            let one : other ≡ id = same ∙ sym added.is in
            let names : name ≡ text =
            same_Some _ _ (sym named ∙ subst (λ k. IsNamed new.pool k text) one is) in
            λ place at.
            let found = all place (subst (λ (n : NameText). IsPlaceOf rules n place) (sym names) at) in
            subst (λ k. Any (λ s. place_in new.pool s ≡ Some place) (versions_at new.versions.items k)) (sym one)
            (zip_any new.pool id (versions_at new.versions.items id) places added.at place found.0 found.1 found.2)
        | inr apart ↦ elim apart [
          | inl lt ↦
              let was : IsNamed old.pool other text =
              ap (option_map plain_name) (sym (before old.pool.names later.names.0 other (omega (arith, h.in_step)))
              ∙ ap (λ names. slice_get names other) (sym later.names.1)) ∙ is in
              subst (HasVersions rules new.pool text) (sym (added.others other lt))
              (versions_still old.pool new.pool later rules text (versions_at old.versions.items other)
              (h.all other text was))
          | inr gt ↦ absurd (omega (arith, named_within new.pool other text is, added.names, h.in_step))
        ]
      ]

  new_each : (other : ℕ) → other < length new.versions.items
      → All (IsVersion rules new.pool other) (versions_at new.versions.items other)
  new_each other lt =
      elim (cases_order other (length old.versions.items)) [
        | inl same ↦
            let one : other ≡ id = same ∙ sym added.is in
            subst (λ k. All (IsVersion rules new.pool k) (versions_at new.versions.items k)) (sym one)
            (zip_all new.pool id rules name named (versions_at new.versions.items id) places added.at each)
        | inr apart ↦ elim apart [
          | inl lt ↦
              subst (All (IsVersion rules new.pool other)) (sym (added.others other lt))
              (All-weaker (IsVersion rules old.pool other) (IsVersion rules new.pool other)
              (version_still old.pool new.pool later rules other) (versions_at old.versions.items other)
              (h.each other lt))
          | inr gt ↦ absurd (omega (arith, added.one_more))
        ]
      ]

  pub named_with_name : AreNamed rules new
  named_with_name = record {
    in_step = omega (arith, added.one_more, added.names, added.is, h.in_step, named_within new.pool id name named);
    all = new_all;
    each = new_each;
  }

-- where there is nothing
pub named_nothing : (rules : Rules) (reached : Reached) → reached.pool ≡ nothing → reached.versions.items ≡ []
    → AreNamed rules reached
named_nothing rules reached none empty = record {
  in_step = ap length empty ∙ sym (ap (λ (p : Ids). length p.names) none);
  all = λ id name named. absurd (none-some name
      (ap (λ (p : Ids). option_map plain_name (slice_get p.names id)) (sym none) ∙ named));
  each = λ id lt. absurd (omega (arith, lt, ap length empty));
}
