-- What is under names stays there as names and places are added.
use Rattle.std.proofs.Common.{◌≡◌, ℕ, zero, suc, ◌+◌, ◌<◌, ◌==◌, ◌⊎◌, Bool, true, false, List, [], ◌∷◌, ◌++◌, Option}
use Rattle.std.proofs.Common.{None, Some, length, get_or, set, cond, eqb, ltb, map, refl, sym, ◌∙◌, ap, subst, inl}
use Rattle.std.proofs.Common.{inr, arith, length-append}
use Rattle.std.specs.Prelude.{option_map, slice_get, unwrap_or}
use Rattle.std.specs.List.{list_any, position, position_or_len}
use Rattle.std.specs.declared.vec.Vec.{Vec}
use Rattle.std.proofs.lemmas.Bool.{cond_both, eq-eqb, eqb-true, false≢true, lt-ltb, ltb-true, or_cases, or_left}
use Rattle.std.proofs.lemmas.Bool.{or_right}
use Rattle.std.proofs.lemmas.List.{length-map}
use Rattle.std.proofs.lemmas.List.Folds.{list_any-append, position_or_len_push}
use Rattle.std.proofs.lemmas.Option.{cond_some, same_Some, slice_get-get_or, slice_get-map, slice_get_read}
use Rattle.std.proofs.lemmas.Option.{slice_get_within}
use Rattle.debian_scenario.specs.Packages.{PackageText}
use Rattle.debian_scenario.specs.Plain.{plain_package}
use Rattle.debian_scenario.specs.declared.package.Package.{Package}
use Rattle.debian_directory.specs.Directory.{index_of, items_at, Keeps}
use Rattle.debian_directory.specs.declared.directory.Directory.{Directory}
use Rattle.debian_directory.proofs.Places.{is_among}

-- LISTS OF PLACES

-- what is in the first list is in the second one
abbrev pub Grows : List ℕ → List ℕ → Type 0
Grows old new = (place : ℕ) → is_among old place ≡ true → is_among new place ≡ true

module _ {A : Type 0} where
  pub items_at-push : (lists : List (Vec ℕ A)) (list : Vec ℕ A) (i : ℕ) →
      Grows (items_at lists i) (items_at (lists ++ list ∷ []) i)
  items_at-push [] list i place h = absurd (false≢true h)
  items_at-push (first ∷ lists) list zero place h = h
  items_at-push (first ∷ lists) list (suc i) place h = items_at-push lists list i place h

  pub items_at-set : (lists : List (Vec ℕ A)) (i : ℕ) (list : Vec ℕ A) → Grows (items_at lists i) list.items →
      (j : ℕ) → Grows (items_at lists j) (items_at (set lists i list) j)
  items_at-set [] i list more j place h = absurd (false≢true h)
  items_at-set (first ∷ lists) zero list more zero place h = more place h
  items_at-set (first ∷ lists) zero list more (suc j) place h = h
  items_at-set (first ∷ lists) (suc i) list more zero place h = h
  items_at-set (first ∷ lists) (suc i) list more (suc j) place h = items_at-set lists i list more j place h

  pub items_at-set_same : (lists : List (Vec ℕ A)) (i : ℕ) (list : Vec ℕ A) → i < length lists →
      items_at (set lists i list) i ≡ list.items
  items_at-set_same [] i list within = absurd (omega arith)
  items_at-set_same (first ∷ lists) zero list within = refl
  items_at-set_same (first ∷ lists) (suc i) list within =
      let less : i < length lists = omega arith in items_at-set_same lists i list less

  pub grows-push : (lists : List (Vec ℕ A)) (i : ℕ) (list : Vec ℕ A) (place : ℕ) (new : List ℕ) → i < length lists →
      list ≡ get_or lists i list → new ≡ list.items ++ place ∷ [] → Grows (items_at lists i) new
  grows-push lists i list place new within at e other h =
      let read : slice_get lists i ≡ Some list = slice_get_read lists (length lists) i list refl within at in
      let more : is_among (list.items ++ place ∷ []) other ≡ true =
      list_any-append (λ at. at == other) list.items (place ∷ [])
      ∙ or_left _ _ (sym (ap (λ (o : Option (Vec ℕ A)). is_among
      (unwrap_or (option_map (λ (l : Vec ℕ A). l.items) o) []) other) read) ∙ h) in
      ap (λ (l : List ℕ). is_among l other) e ∙ more

  under-grows : (old new : List (Vec ℕ A)) (before after : Option ℕ) → ((i : ℕ) → before ≡ Some i → after ≡ Some i) →
      ((i : ℕ) → Grows (items_at old i) (items_at new i)) →
      Grows (unwrap_or (option_map (items_at old) before) []) (unwrap_or (option_map (items_at new) after) [])
  under-grows old new None after stays more place h = absurd (false≢true h)
  under-grows old new (Some i) after stays more place h =
      subst (λ (o : Option ℕ). is_among (unwrap_or (option_map (items_at new) o) []) place ≡ true)
      (sym (stays i refl)) (more i place h)

pub Keeps-from : (old new : Directory) → ((name : List ℕ) (i : ℕ) → index_of old name ≡ Some i →
    index_of new name ≡ Some i) → ((i : ℕ) → Grows (items_at old.places.items i) (items_at new.places.items i)) →
    Keeps old new
Keeps-from old new stays more name place h =
    under-grows old.places.items new.places.items (index_of old name) (index_of new name) (stays name) more place h

pub among-push : (list : List ℕ) (place : ℕ) → is_among (list ++ place ∷ []) place ≡ true
among-push list place =
    list_any-append (λ at. at == place) list (place ∷ []) ∙ or_right _ _ (or_left _ _ (eq-eqb place place refl))

pub list_any-push : {X : Type 0} (p : X → Bool) (xs : List X) (x : X) → list_any p (xs ++ x ∷ []) ≡ true →
    (list_any p xs ≡ true) ⊎ (p x ≡ true)
list_any-push p xs x h = elim (or_cases _ _ (sym (list_any-append p xs (x ∷ [])) ∙ h)) [
  | inl e ↦ inl e
  | inr e ↦ elim (or_cases (p x) false e) [ inl d ↦ inr d | inr d ↦ absurd (false≢true d) ]
]

-- PACKAGES AT PLACES

pub place_within : (packages : List Package) (place : ℕ) (p : PackageText) →
    slice_get (map plain_package packages) place ≡ Some p → place < length packages
place_within packages place p at =
    omega (arith, slice_get_within (map plain_package packages) place p at, length-map packages plain_package)

pub package_is : (packages : List Package) (place : ℕ) (d : Package) (p : PackageText) → place < length packages →
    slice_get (map plain_package packages) place ≡ Some p → plain_package (get_or packages place d) ≡ p
package_is packages place d p within at =
    same_Some _ _ (sym (slice_get-map plain_package packages place
    ∙ ap (option_map plain_package) (slice_get-get_or packages place d within)) ∙ at)

-- INDEXES OF NAMES

module _ {K : Type 0} (p : K → Bool) where
  position_is : (ks : List K) (i : ℕ) → position_or_len p ks ≡ i → i < length ks → position p ks ≡ Some i
  position_is ks i e within =
      subst (λ (n : ℕ). cond (ltb n (length ks)) (Some n) None ≡ Some i) (sym e)
      (ap (λ (b : Bool). cond b (Some i) None) (lt-ltb i (length ks) within))

  pub position-push : (ks : List K) (k : K) (i : ℕ) → position p ks ≡ Some i → position p (ks ++ k ∷ []) ≡ Some i
  position-push ks k i h =
      let w = cond_some (ltb (position_or_len p ks) (length ks)) (position_or_len p ks) i h in
      let within : position_or_len p ks < length ks = ltb-true _ _ w.0 in
      let at : position_or_len p (ks ++ k ∷ []) ≡ position_or_len p ks =
      position_or_len_push p ks k ∙ cond_both (eqb (position_or_len p ks) (length ks)) _ _
      (λ n. n ≡ position_or_len p ks)
      (λ e. absurd (omega (arith, eqb-true _ _ e))) (λ e. refl) in
      position_is (ks ++ k ∷ []) i (at ∙ w.1) (omega (arith, length-append ks (k ∷ []), w.1))

  -- `insert_key` gives one of the two
  pub position-insert : (b : Bool) (ks : List K) (k : K) (i : ℕ) → position p ks ≡ Some i →
      position p (cond b ks (ks ++ k ∷ [])) ≡ Some i
  position-insert b ks k i h = cond_both b ks (ks ++ k ∷ []) (λ l. position p l ≡ Some i) (λ _. h)
      (λ _. position-push ks k i h)
