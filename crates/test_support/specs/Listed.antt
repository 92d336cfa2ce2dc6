-- What a provider of plain lists answers. A solvable's number is its place in the list.
use Rattle.std.specs.Prelude.{◌≡◌, ℕ, ◌<◌, ◌≤◌, ◌+◌, ◌%◌, Bool, true, false, ◌&&◌, ◌==◌}
use Rattle.std.specs.Prelude.{if◌then◌else◌, nat_le, nat_lt, List, [], ◌∷◌, ◌++◌, codes, decimal}
use Rattle.std.specs.Prelude.{length, map, reverse, slice_index_or, All, Option, None, Some, option_map}
use Rattle.std.specs.List.{AllByRecursion, list_all}
use Rattle.std.specs.Char.{encode_utf8}
use Rattle.std.proofs.lemmas.List.Elements.{All-from_recursion, All-append}
use Rattle.std.proofs.Common.{arith, rules, cond, refl, ap, sym, ◌∙◌}
use Rattle.typed_ids.specs.declared.string_id.StringId.{StringId}
use Rattle.typed_ids.specs.declared.version_set_id.VersionSetId.{VersionSetId}
use Rattle.typed_ids.specs.declared.version_set_union_id.VersionSetUnionId.{VersionSetUnionId}
use Rattle.providers.specs.declared.condition.Condition.TheVariants.{Requirement}
use Rattle.providers.specs.Dependencies.{Known}
use Rattle.providers.specs.Provider.{Universe, Answers}
use Rattle.providers.specs.Texts.{Texts}
use Rattle.test_support.specs.declared.listed.Package.{Package}
use Rattle.test_support.specs.declared.listed.VersionRange.{VersionRange}
use Rattle.test_support.specs.declared.manner.Listing.{Listing}
use Rattle.test_support.specs.declared.manner.Listing.TheVariants.{Once, Twice}

-- the places of the packages of a name, the first of the list being place n
abbrev pub places_of : ℕ → ℕ → List Package → List ℕ
places_of name n [] = []
places_of name n (p ∷ ps) = if p.name == name then n ∷ places_of name (n + 1) ps else places_of name (n + 1) ps

-- a package, where there is one at the place
abbrev pub package_at : List Package → ℕ → Package
package_at packages s = slice_index_or packages s (record { name = 0; version = 0 })

-- its version; 0 where there is none
abbrev pub version_at : List Package → ℕ → ℕ
version_at packages s = (package_at packages s).version

-- a range of versions, where there is one at the place
abbrev pub range_at : List VersionRange → VersionSetId → VersionRange
range_at ranges v = slice_index_or ranges v.0 (record { name = 0; low = 0; high = 0 })

-- the version sets of a union, where there is one at the place
abbrev pub union_at : List (List VersionSetId) → VersionSetUnionId → List VersionSetId
union_at unions u = slice_index_or unions u.0 []

-- these version sets are among the first `count`
abbrev pub are_known : ℕ → List VersionSetId → Bool
are_known count sets = list_all (λ v. nat_lt v.0 count) sets

-- the version is in the range
abbrev pub is_within : VersionRange → ℕ → Bool
is_within r version = nat_le r.low version && nat_lt version r.high

-- candidates as they are listed
abbrev pub listed : {S : Type 0} → Listing → List S → List S
listed Once candidates = candidates
listed Twice candidates = candidates ++ candidates

-- ---- texts

-- the letter that a name of this number is written as
abbrev pub letter : ℕ → ℕ
letter name = 97 + name % 26

-- as >=1, <3; nothing where the versions have no end
abbrev pub range_text : VersionRange → List ℕ
range_text range =
    if range.high == 4294967295 then [] else codes ">=" ++ (decimal range.low ++ (codes ", <" ++ decimal range.high))

-- the text of solvables together, whichever they are
abbrev pub several : List ℕ
several = codes "several"

-- the locked one is excluded too
abbrev pub excluded_with : {S : Type 0} → Option S → List (S × StringId)
excluded_with None = []
excluded_with (Some s) = (s, record { 0 = 0 }) ∷ []

-- ---- names N and solvables S that are told by their numbers
module _ {N S : Type 0} where
  -- which ids the lists know, and how they belong together
  abbrev pub universe_of : (ℕ → N) → (S → ℕ) → List Package → List VersionRange →
      List (List VersionSetId) → Universe N S
  universe_of name number packages ranges unions = record {
    knows_string = λ s. s.0 == 0;
    knows_name = λ n. true;
    knows_solvable = λ s. nat_lt (number s) (length packages);
    knows_set = λ v. nat_lt v.0 (length ranges);
    knows_union = λ u. nat_lt u.0 (length unions) && are_known (length ranges) (union_at unions u);
    knows_condition = λ c. nat_lt c (length ranges);
    solvable_name = λ s. name (package_at packages (number s)).name;
    set_name = λ v. name (range_at ranges v).name;
    union_sets = λ u. union_at unions u;
    condition = λ c. Requirement (record { 0 = c });
  }

  -- a name is its letter, and a solvable that and its version, as a 1
  abbrev pub texts_of : (N → ℕ) → (S → ℕ) → List Package → List VersionRange → Texts N S
  texts_of name_number number packages ranges = record {
    solvable = λ s. let p = package_at packages (number s) in
        encode_utf8 (letter p.name) ++ (codes " " ++ decimal p.version);
    name = λ n. encode_utf8 (letter (name_number n));
    version_set = λ v. range_text (range_at ranges v);
    string = λ s. codes "old";
  }

  -- what the lists answer
  abbrev pub answers_of : (N → ℕ) → (S → ℕ) → (ℕ → S) → List Package → List VersionRange →
      (favored locked : Option ℕ) → Listing → Answers N S
  answers_of name_number number numbered packages ranges favored locked listing = record {
    candidates = λ n. listed listing (map numbered (places_of (name_number n) 0 packages));
    matches = λ v s. is_within (range_at ranges v) (version_at packages (number s));
    favored = λ n. option_map numbered favored;
    locked = λ n. option_map numbered locked;
    excluded = λ n. excluded_with (option_map numbered locked);
    order = λ list. reverse list;
    needs = λ s. Known [] [];
  }

-- nothing is known where nothing is
pub none_known : {P : Type 0} → false ≡ true → P
none_known h = cc

-- ---- candidates are known
module _ {S : Type 0} (number : S → ℕ) (numbered : ℕ → S) (undone : (n : ℕ) → number (numbered n) ≡ n) where
  -- each place is below the end of the list
  places_below : (name n end : ℕ) (ps : List Package) → n + length ps ≤ end
      → AllByRecursion (λ s. nat_lt (number s) end ≡ true) (map numbered (places_of name n ps))
  places_below name n end [] h = tt
  places_below name n end (p ∷ ps) h =
      let rest : AllByRecursion (λ s. nat_lt (number s) end ≡ true) (map numbered (places_of name (n + 1) ps)) =
      places_below name (n + 1) end ps (omega arith) in
      let below : n < end = omega arith in
      let known : nat_lt n end ≡ true = search rules in
      let first : nat_lt (number (numbered n)) end ≡ true = ap (λ m. nat_lt m end) (undone n) ∙ known in
      elim (p.name == name) as (λ b. AllByRecursion (λ s. nat_lt (number s) end ≡ true)
      (map numbered (cond b (n ∷ places_of name (n + 1) ps) (places_of name (n + 1) ps))))
      [ true ↦ (first, rest) | false ↦ rest ]

  -- all of them, once or twice
  pub candidates_known : (name : ℕ) (ps : List Package) (listing : Listing)
      → All (λ s. nat_lt (number s) (length ps) ≡ true) (listed listing (map numbered (places_of name 0 ps)))
  candidates_known name ps Once = All-from_recursion _ _ (places_below name 0 (length ps) ps (omega arith))
  candidates_known name ps Twice =
      let once : All (λ s. nat_lt (number s) (length ps) ≡ true) (map numbered (places_of name 0 ps)) =
      All-from_recursion _ _ (places_below name 0 (length ps) ps (omega arith)) in
      All-append (λ s. nat_lt (number s) (length ps) ≡ true) _ _ once once

-- so all version sets of a union are known, whatever else is known of it
pub unions_known : (count : ℕ) (sets : List VersionSetId) (b : Bool) → (b && are_known count sets) ≡ true →
    All (λ v. nat_lt v.0 count ≡ true) sets
unions_known count sets true h = All-from_recursion _ _ (each sets h)
  where
    each : (vs : List VersionSetId) → are_known count vs ≡ true → AllByRecursion (λ v. nat_lt v.0 count ≡ true) vs
    each [] k = tt
    each (v ∷ vs) k = both (nat_lt v.0 count) refl k (each vs)
      where
        both : (a : Bool) → nat_lt v.0 count ≡ a → (a && are_known count vs) ≡ true →
            (are_known count vs ≡ true → AllByRecursion (λ w. nat_lt w.0 count ≡ true) vs)
            → (nat_lt v.0 count ≡ true) × AllByRecursion (λ w. nat_lt w.0 count ≡ true) vs
        both true e k rest = (e, rest k)
        both false e k rest = none_known k
unions_known count sets false h = none_known h
