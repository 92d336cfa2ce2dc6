-- Whether a name is listed, by its place among the names.
use Rattle.std.proofs.lemmas.Option.{slice_get-map, get_or_from_slice_get}
use Rattle.std.proofs.Common.{◌≡◌, ℕ, ◌<◌, ◌≤◌, Bool, true, false, ◌&&◌, nat_lt, List, [], Some, map, get_or, length}
use Rattle.std.proofs.Common.{arith, sym, ap, ◌∙◌}
use Rattle.std.proofs.lemmas.Bool.Decides.{nat_tests}
use Rattle.std.proofs.lemmas.List.Sums.{position_or_len_is}
use Rattle.script_packages.proofs.Words.{bytes_eq, has_span, is_listed, Listing, name_number, option_map, slice_get}

-- a value at a place, seen by a function
pub name_at : {X : Type 0} (v : X → List ℕ) (xs : List X) (i : ℕ) (x : X) → slice_get xs i ≡ Some x →
    get_or (map v xs) i [] ≡ v x
name_at v xs i x h = get_or_from_slice_get (map v xs) i (v x) [] (slice_get-map v xs i ∙ ap (option_map v) h)

pub not_below : (a b : ℕ) → nat_lt a b ≡ false → b ≤ a
not_below a b h = grind (arith, nat_tests, h)

module _ (l : Listing) (name : List ℕ) (place : ℕ) (within : place ≤ length l.pool.names)
    (others : (k : ℕ) → k < place → bytes_eq name (get_or l.pool.names k []) ≡ false) where
  -- the name at this place, if it is there, is the name
  number_is : (place < length l.pool.names → bytes_eq name (get_or l.pool.names place []) ≡ true) →
      name_number l name ≡ place
  number_is here = position_or_len_is (bytes_eq name) l.pool.names place [] within others here

  below : place < length l.pool.names → nat_lt place (length l.pool.names) ≡ true
  below less = grind (arith, nat_tests, less)

  behind : length l.pool.names ≤ place → nat_lt place (length l.pool.names) ≡ false
  behind past = grind (arith, nat_tests, past)

  by_place : name_number l name ≡ place → is_listed l name ≡ (nat_lt place (length l.pool.names) && has_span l place)
  by_place is = ap (λ n. nat_lt n (length l.pool.names) && has_span l n) is

  pub listed_here : place < length l.pool.names → bytes_eq name (get_or l.pool.names place []) ≡ true →
      has_span l place ≡ is_listed l name
  listed_here less here = sym (by_place (number_is (λ _. here)) ∙ ap (λ b. b && has_span l place) (below less))

  pub unlisted : length l.pool.names ≤ place → false ≡ is_listed l name
  unlisted past =
      let no : place < length l.pool.names → ⊥ = λ less. omega (arith, past, less) in
      sym (by_place (number_is (λ less. absurd (no less))) ∙ ap (λ b. b && has_span l place) (behind past))
