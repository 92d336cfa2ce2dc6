-- Whether a version is there already.
use Rattle.std.proofs.Common.{◌≡◌, ◌∙◌, ℕ, suc, Bool, true, false, ◌&&◌, ◌||◌, List, [], ◌∷◌, ◌++◌, map}
use Rattle.std.proofs.Common.{Option, None, Some, arith, refl, ap, ap₂, sym, subst}
use Rattle.std.specs.Prelude.{◌==◌, if◌then◌else◌}
use Rattle.std.proofs.lemmas.Bool.Decides.{nat_tests}
use Rattle.std.proofs.lemmas.Slice.Eq.{bytes_eq-Decides}
use Rattle.example_index.proofs.Words.{AllZip, bytes_eq, first_place, is_same_version, IsAdded, IsLater, IsNamed}
use Rattle.example_index.proofs.Words.{IsVersion, list_any, Lists, numbered, option_map, slice_get, Solvable}
use Rattle.example_index.proofs.Words.{VersionRange, VersionText, with_version}
use Rattle.example_index.proofs.Kept.{same_numbers}
use Rattle.example_index.proofs.Later.{version_still, zip_weaker}

bool_same : (a b : Bool) → (a ≡ true → b ≡ true) → (b ≡ true → a ≡ true) → a ≡ b
bool_same true b f g = sym (f refl)
bool_same false true f g = g refl
bool_same false false f g = refl

at_place : (text x : List ℕ) (names : List (List ℕ)) (b : Bool) (o : Option ℕ) (n : ℕ) → bytes_eq text x ≡ b
    → ((m : ℕ) → o ≡ Some m → slice_get names m ≡ Some text)
    → (if b then Some 0 else option_map suc o) ≡ Some n → slice_get (x ∷ names) n ≡ Some text
at_place text x names true o n is each h =
    let zero_is : 0 ≡ n = cc in
    subst (λ k. slice_get (x ∷ names) k ≡ Some text) zero_is (ap Some (sym ((bytes_eq-Decides text x).0 is)))
at_place text x names false None n is each h = cc
at_place text x names false (Some m) n is each h =
    let suc_is : suc m ≡ n = cc in
    subst (λ k. slice_get (x ∷ names) k ≡ Some text) suc_is (each m refl)

-- where a name is first, it stands
pub place_text : (text : List ℕ) (names : List (List ℕ)) (n : ℕ) → first_place text names ≡ Some n → slice_get names
    n ≡ Some text
place_text text [] n h = cc
place_text text (x ∷ names) n h = at_place text x names (bytes_eq text x) (first_place text names) n refl
    (λ m. place_text text names m) h

number_itself : (i j : ℕ) → i ≡ j → (i == j) ≡ true
number_itself i j same = grind (arith, nat_tests, same)

abbrev same_pair : ℕ × ℕ → ℕ × ℕ → Bool
same_pair a b = (a.0 == b.0) && (a.1 == b.1)

module _ (pool : Lists (List ℕ) VersionRange ℕ) where
  -- ids are the same where names are
  names_agree : (i j : ℕ) (a b : List ℕ) → IsNamed pool i a → IsNamed pool j b → (i == j) ≡ bytes_eq a b
  names_agree i j a b h k =
      bool_same (i == j) (bytes_eq a b)
      (λ e. let same : i ≡ j = same_numbers i j e in
      let at_i : slice_get pool.names i ≡ Some b = subst (λ n. slice_get pool.names n ≡ Some b) (sym same)
      (place_text b pool.names j k) in
      let at_a : slice_get pool.names i ≡ Some a = place_text a pool.names i h in
      let texts : a ≡ b = cc in
      (bytes_eq-Decides a b).1 texts)
      (λ e. let texts : a ≡ b = (bytes_eq-Decides a b).0 e in
      let named : first_place a pool.names ≡ Some j = subst (λ t. first_place t pool.names ≡ Some j) (sym texts) k in
      let same : i ≡ j = cc in
      number_itself i j same)

  module _ (n : ℕ) (x : VersionText) (named : IsNamed pool n x.name) where
    -- a name's id and a number are there exactly if one of the lines says the same version
    is_known : (solvables : List (Solvable ℕ)) (versions : List VersionText) → AllZip (IsVersion pool) solvables
        versions
        → list_any (same_pair (n, x.version)) (map numbered solvables) ≡ list_any (is_same_version x) versions
    is_known [] [] h = refl
    is_known [] (y ∷ versions) h = absurd h
    is_known (s ∷ solvables) [] h = absurd h
    is_known (s ∷ solvables) (y ∷ versions) h =
        ap₂ (λ (a b : Bool). a || b)
        (ap₂ (λ (a b : Bool). a && b) (names_agree n s.name x.name y.name named h.0.0) (ap (λ k. x.version == k) h.0.1))
        (is_known solvables versions h.1)

-- the same of pairs that are known, and of a pool later on
pub same_known : (p q : Lists (List ℕ) VersionRange ℕ) → IsLater p q → (n : ℕ) (x : VersionText) → IsNamed q n x.name
    → (known : List (ℕ × ℕ)) → known ≡ map numbered p.solvables
    → (versions : List VersionText) → AllZip (IsVersion p) p.solvables versions
    → list_any (is_same_version x) versions ≡ list_any (same_pair (n, x.version)) known
same_known p q later n x named known is versions are =
    sym (ap (list_any (same_pair (n, x.version))) is
    ∙ is_known q n x named p.solvables versions
    (zip_weaker (IsVersion p) (IsVersion q) (version_still p q later) p.solvables versions are))

-- with one line more, or not
module _ (K : List VersionText → Type 0) (versions : List VersionText) (x : VersionText) where
  pub added_none : list_any (is_same_version x) versions ≡ true → IsAdded K (with_version versions x) false
  added_none is = subst (λ b. IsAdded K (if b then None else Some (versions ++ x ∷ [])) false) (sym is) tt

  pub added_some : list_any (is_same_version x) versions ≡ false → K (versions ++ x ∷ []) → IsAdded K
      (with_version versions x) true
  added_some is h = subst (λ b. IsAdded K (if b then None else Some (versions ++ x ∷ [])) true) (sym is) h
