-- Lemmas on the slots of a map, for this crate and its callers.
use Rattle.std.proofs.Common.{◌≡◌, ℕ, zero, suc, ◌+◌, ◌<◌, List, [], ◌∷◌, length, All, Option, Some}
use Rattle.std.proofs.Common.{None, is_some, true, cond, replicate, refl, ap, add-zero, arith}
use Rattle.std.proofs.lemmas.List.Elements.{All-nil, All-cons, All-head, All-tail}
use Rattle.std.proofs.lemmas.List.Sums.{sum_by-cons}
use Rattle.id_storage.specs.Mapping.{value_at, value_count, pairs_from, pairs, AreBelow, IsTail}

module _ {V : Type 0} where
  -- empty slots have no value anywhere
  pub no_value_in_empty : (count index : ℕ) → value_at {V = V} (replicate count None) index ≡ None
  no_value_in_empty zero index = refl
  no_value_in_empty (suc count) zero = refl
  no_value_in_empty (suc count) (suc index) = no_value_in_empty count index

  -- there are as many pairs as values
  pub length_of_pairs : {K : Type 0} (id_at : ℕ → K) (index : ℕ) (slots : List (Option V)) →
      length (pairs_from id_at index slots) ≡ value_count slots
  length_of_pairs id_at index [] = refl
  length_of_pairs id_at index (None ∷ rest) =
      omega (arith, length_of_pairs id_at (index + 1) rest, sum_by-cons (λ slot. cond (is_some slot) 1 0) None rest)
  length_of_pairs id_at index (Some value ∷ rest) =
      omega (
        arith,
        length_of_pairs id_at (index + 1) rest,
        sum_by-cons (λ slot. cond (is_some slot) 1 0) (Some value) rest,
      )

  -- what is left after the first slot
  pub tail_of_tail : (limit index : ℕ) (slots rest : List (Option V)) (slot : Option V) → slots ≡ slot ∷ rest →
      IsTail limit index slots → IsTail limit (index + 1) rest
  tail_of_tail limit index slots rest slot split tail =
      let longer = ap length split in
      record {
        bounded = omega (arith, tail.bounded);
        below = λ place filled. omega (arith, tail.below (suc place) (rw split filled));
      }

  -- a filled first slot has an index below the limit
  pub head_of_tail : (limit index : ℕ) (slots rest : List (Option V)) (slot : Option V) (value : V) →
      slots ≡ slot ∷ rest → slot ≡ Some value → IsTail limit index slots → index < limit
  head_of_tail limit index slots rest slot value split filled tail =
      omega (arith, tail.below zero (rw (split, filled) refl))

  -- an empty first slot gives no pair
  pub pairs_past_empty : {K : Type 0} (id_at : ℕ → K) (index : ℕ) (slots rest : List (Option V)) (slot : Option V) →
      slots ≡ slot ∷ rest → slot ≡ None → pairs_from id_at (index + 1) rest ≡ pairs_from id_at index slots
  pairs_past_empty id_at index slots rest slot split empty = rw (split, empty) refl

  -- what holds of a value after a slot, said from the slot that comes next
  later : (K : Type 0) (P : K × V → Type 0) (id_at : ℕ → K) (first : ℕ) (slot : Option V) (rest : List (Option V)) →
      ((place : ℕ) (value : V) → value_at (slot ∷ rest) place ≡ Some value → P (id_at (first + place), value)) →
      (place : ℕ) (value : V) → value_at rest place ≡ Some value → P (id_at (first + 1 + place), value)
  later K P id_at first slot rest holds place value found =
      let shift : first + 1 + place ≡ first + suc place = omega arith in
      rw shift (holds (suc place) value found)

  -- what holds of each value and its id holds of all pairs
  pub all_pairs_from : {K : Type 0} (P : K × V → Type 0) (id_at : ℕ → K) (first : ℕ) (slots : List (Option V)) →
      ((place : ℕ) (value : V) → value_at slots place ≡ Some value → P (id_at (first + place), value)) →
      All P (pairs_from id_at first slots)
  all_pairs_from P id_at first [] holds = All-nil P
  all_pairs_from {K} P id_at first (None ∷ rest) holds =
      all_pairs_from P id_at (first + 1) rest (later K P id_at first None rest holds)
  all_pairs_from {K} P id_at first (Some value ∷ rest) holds =
      All-cons P _ _ (rw add-zero at (holds zero value refl))
      (all_pairs_from P id_at (first + 1) rest (later K P id_at first (Some value) rest holds))

  -- what holds of all pairs holds of each value and its id
  pub each_value_from : {K : Type 0} (P : K × V → Type 0) (id_at : ℕ → K) (first : ℕ) (slots : List (Option V)) →
      All P (pairs_from id_at first slots) → (place : ℕ) (value : V) → value_at slots place ≡ Some value →
      P (id_at (first + place), value)
  each_value_from P id_at first [] all place value found = absurd (cc)
  each_value_from P id_at first (None ∷ rest) all zero value found = absurd (cc)
  each_value_from P id_at first (Some other ∷ rest) all zero value found =
      let same : other ≡ value = cc in
      rw (add-zero, ← same) (All-head P _ _ all)
  each_value_from P id_at first (None ∷ rest) all (suc place) value found =
      let shift : first + suc place ≡ first + 1 + place = omega arith in
      rw shift (each_value_from P id_at (first + 1) rest all place value found)
  each_value_from P id_at first (Some other ∷ rest) all (suc place) value found =
      let shift : first + suc place ≡ first + 1 + place = omega arith in
      rw shift (each_value_from P id_at (first + 1) rest (All-tail P _ _ all) place value found)

  -- what holds of all pairs of a map holds of each value and its id
  pub each_value : {K : Type 0} (P : K × V → Type 0) (id_at : ℕ → K) (slots : List (Option V)) →
      All P (pairs id_at slots) → (index : ℕ) (value : V) → value_at slots index ≡ Some value → P (id_at index, value)
  each_value P id_at slots all index value found =
      let start : 0 + index ≡ index = omega arith in
      rw start at (each_value_from P id_at 0 slots all index value found)

  -- the pairs of a map are its ids with their values
  pub pairs_are_values : {K : Type 0} (limit : ℕ) (id_at : ℕ → K) (index_of : K → ℕ) (slots : List (Option V)) →
      ((index : ℕ) → index < limit → index_of (id_at index) ≡ index) → AreBelow limit slots →
      All (λ pair. value_at slots (index_of pair.0) ≡ Some pair.1) (pairs id_at slots)
  pairs_are_values limit id_at index_of slots round_trip below =
      all_pairs_from (λ pair. value_at slots (index_of pair.0) ≡ Some pair.1) id_at 0 slots
      (λ index value found.
      let start : 0 + index ≡ index = omega arith in
      let filled : is_some (value_at slots index) ≡ true = rw found refl in
      rw (start, round_trip index (below index filled)) found)
