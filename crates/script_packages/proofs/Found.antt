-- A name that is found among the names is there already, and has the place where it is found.
use Rattle.std.proofs.Common.{◌≡◌, ℕ, suc, ◌+◌, Bool, true, false, not, cond, ◌||◌, List, [], ◌∷◌, ◌++◌, Some, map}
use Rattle.std.proofs.Common.{length, refl}
use Rattle.std.proofs.Common.{sym, ap, ◌∙◌, arith}
use Rattle.std.specs.Prelude.{None, nat_lt}
use Rattle.std.proofs.lemmas.Bool.Decides.{nat_tests}
use Rattle.script_packages.proofs.Words.{bytes_eq, has_same, Listing, named, position, position_or_len, with_pool}

of_test : (b : Bool) (place found : ℕ) → cond b (Some place) None ≡ Some found → (b ≡ true) × (place ≡ found)
of_test true place found h = (refl, cc)
of_test false place found h = cc

-- names that are seen by their bytes
module _ {X : Type 0} (view : X → List ℕ) (name : List ℕ) where
  abbrev stands_for : X → Bool
  stands_for x = bytes_eq name (view x)

  seen_place : (xs : List X) → position_or_len stands_for xs ≡ position_or_len (bytes_eq name) (map view xs)
  seen_place [] = refl
  seen_place (k ∷ ks) = ap (λ n. cond (not (bytes_eq name (view k))) (1 + n) 0) (seen_place ks)

  is_there : (xs : List X) → nat_lt (position_or_len stands_for xs) (length xs) ≡ true →
      has_same bytes_eq (map view xs) name ≡ true
  is_there [] h = let no : false ≡ true = h in cc
  is_there (k ∷ ks) h = by_test (bytes_eq name (view k)) (is_there ks) h
    where
      by_test : (b : Bool) → (nat_lt (position_or_len stands_for ks) (length ks) ≡ true →
          has_same bytes_eq (map view ks) name ≡ true) →
          nat_lt (cond (not b) (1 + position_or_len stands_for ks) 0) (suc (length ks)) ≡ true →
          (b || has_same bytes_eq (map view ks) name) ≡ true
      by_test true later h = refl
      by_test false later h = later (grind (arith, nat_tests, h))

  pub found_place : (xs : List X) (found : ℕ) → position stands_for xs ≡ Some found →
      found ≡ position_or_len (bytes_eq name) (map view xs)
  found_place xs found h = sym (of_test _ _ found h).1 ∙ seen_place xs

  pub found_there : (xs : List X) (found : ℕ) → position stands_for xs ≡ Some found →
      has_same bytes_eq (map view xs) name ≡ true
  found_there xs found h = is_there xs (of_test _ _ found h).0

-- a name that is there changes nothing
pub named_again : (l : Listing) (name : List ℕ) → has_same bytes_eq l.pool.names name ≡ true → named l name ≡ l
named_again l name h = ap (λ b. with_pool l (record l.pool {
  names =
      cond b l.pool.names (l.pool.names ++ name ∷ []);
})) h
