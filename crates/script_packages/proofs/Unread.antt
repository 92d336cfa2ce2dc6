-- Where a word isn't read, nothing is listed.
use Rattle.std.proofs.Common.{◌≡◌, ℕ, true, false, List, [], ◌∷◌, ◌++◌, Some, Option, ap, refl}
use Rattle.std.specs.Prelude.{None, ◌&&◌, length, if◌then◌else◌}
use Rattle.script_packages.proofs.Words.{are_sets, are_versions, below, each_is_version, favored_place, has_span}
use Rattle.script_packages.proofs.Words.{is_some, listed_sets, listed_versions, Listing, number_32, option_and_then}
use Rattle.script_packages.proofs.Words.{option_map, version_of, VersionSetId, with_some_union, with_span_from}
use Rattle.script_packages.proofs.Words.{with_versions}
use Rattle.script_packages.specs.Listing.{with_version}

no_versions : (l : Listing) (name : ℕ) (words : List (List ℕ)) → each_is_version words ≡ false →
    listed_versions l name words ≡ None
no_versions l name [] h = let no : true ≡ false = h in cc
no_versions l name (word ∷ words) h =
    (elim (version_of word) as (λ o. (is_some o && each_is_version words) ≡ false
    → option_and_then (λ version. listed_versions (with_version l name version) name words) o ≡ None)
    [ None ↦ λ h. refl | Some version ↦ λ h. no_versions (with_version l name version) name words h ]) h

pub no_package : (l : Listing) (name : ℕ) (words : List (List ℕ)) → are_versions words ≡ false →
    with_versions l name words ≡ None
no_package l name [] h = refl
no_package l name (word ∷ words) h =
    elim (has_span l name) as (λ b. (if b then None
    else option_and_then (λ favored. option_map (with_span_from name (length l.pool.solvables) favored)
    (listed_versions l name (word ∷ words))) (favored_place (word ∷ words))) ≡ None)
    [ true ↦ refl | false ↦ by_place (favored_place (word ∷ words)) h ]
  where
    by_place : (o : Option (Option ℕ)) → (is_some o && each_is_version (word ∷ words)) ≡ false
        → option_and_then (λ favored. option_map (with_span_from name (length l.pool.solvables) favored)
        (listed_versions l name (word ∷ words))) o ≡ None
    by_place None k = refl
    by_place (Some favored) k = ap (option_map (with_span_from name (length l.pool.solvables) favored))
        (no_versions l name (word ∷ words) k)

no_sets : (count : ℕ) (sets : List VersionSetId) (words : List (List ℕ)) → are_sets count words ≡ false →
    listed_sets count sets words ≡ None
no_sets count sets [] h = let no : true ≡ false = h in cc
no_sets count sets (word ∷ words) h =
    (elim (below count (number_32 word)) as (λ o. (is_some o && are_sets count words) ≡ false
    → option_and_then (λ v. listed_sets count (sets ++ record { 0 = v } ∷ []) words) o ≡ None)
    [ None ↦ λ h. refl | Some v ↦ λ h. no_sets count (sets ++ record { 0 = v } ∷ []) words h ]) h

pub no_union : (l : Listing) (count : ℕ) (words : List (List ℕ)) → are_sets count words ≡ false
    → with_some_union l (listed_sets count [] words) ≡ None
no_union l count words h = ap (with_some_union l) (no_sets count [] words h)
