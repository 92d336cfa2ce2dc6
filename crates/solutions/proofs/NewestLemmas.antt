-- Lists that are written part by part.
use Rattle.std.proofs.Common.{◌≡◌, ◌∙◌, ℕ, ◌+◌, ◌<◌, Bool, List, [], ◌∷◌, ◌++◌, length, take, get_or, append_assoc}
use Rattle.std.proofs.Common.{ap, sym, refl, not, true, false, arith, if◌then◌else◌, Option, None}
use Rattle.std.specs.Prelude.{map}
use Rattle.std.proofs.lemmas.Grind.{flat_map-append}
use Rattle.std.proofs.lemmas.List.{append-nil, map-append, take_more}
use Rattle.std.proofs.lemmas.List.Elements.{filter-append}
use Rattle.std.proofs.lemmas.List.Sorted.{length_permutation}
use Rattle.solutions.proofs.Words.{Alternative, alternatives_for, alternatives_of, favored_first, filtered, flat_map}
use Rattle.solutions.proofs.Words.{IsPermutation, Wish}

module _ {X A : Type 0} (xs : List X) (i : ℕ) (x : X) (below : i < length xs) (is : x ≡ get_or xs i x) where
  -- what is written of the elements up to the next one, and then of that one
  pub next_part : (part : List X → List A) → ((a b : List X) → part (a ++ b) ≡ part a ++ part b) →
      (first old new : List A)
      → old ≡ first ++ part (take i xs) → new ≡ old ++ part (x ∷ []) → new ≡ first ++ part (take (i + 1) xs)
  next_part part joins first old new so_far next =
      next ∙ ap (λ l. l ++ part (x ∷ [])) so_far ∙ append_assoc first (part (take i xs)) (part (x ∷ []))
      ∙ ap (λ l. first ++ l) (sym (ap part (take_more xs i x below ∙ ap (λ y. take i xs ++ y ∷ []) (sym is))
      ∙ joins (take i xs) (x ∷ [])))

  -- the same from nothing, where each element has a list
  pub next_list : (f : X → List A) (old new list : List A) → old ≡ flat_map f (take i xs) → new ≡ old ++ list →
      list ≡ f x
      → new ≡ flat_map f (take (i + 1) xs)
  next_list f old new list so_far next same =
      next_part (flat_map f) (flat_map-append f) [] old new so_far
      (next ∙ ap (λ l. old ++ l) same ∙ ap (λ l. old ++ l) (sym (append-nil (f x))))

-- the alternatives of the wishes up to the next one, and of that one
pub next_wish : {X S A : Type 0} (xs : List X) (i : ℕ) (x : X) → i < length xs → x ≡ get_or xs i x
    → (f : X → List (Alternative S)) (old new : List (Wish S A)) (wish : Wish S A) →
    alternatives_of old ≡ map f (take i xs)
    → new ≡ old ++ wish ∷ [] → wish.alternatives.items ≡ f x → alternatives_of new ≡ map f (take (i + 1) xs)
next_wish xs i x below is f old new wish so_far next same =
    next_part xs i x below is (map f) (map-append f) [] (alternatives_of old) (alternatives_of new) so_far
    (ap alternatives_of next ∙ map-append (λ w. w.alternatives.items) old (wish ∷ [])
    ∙ ap (λ l. alternatives_of old ++ l ∷ []) same)

-- what is filtered, as alternatives, part by part
pub filtered_joins : {S : Type 0} (test : S → Bool) (inverse : Bool) (a b : List S)
    → alternatives_for (filtered test inverse (a ++ b)) ≡ alternatives_for
    (filtered test inverse a) ++ alternatives_for (filtered test inverse b)
filtered_joins test inverse a b =
    ap alternatives_for (filter-append (λ s. if inverse then not (test s) else test s) a b)
    ∙ map-append (λ s. record { solvable = s; is_picked = true }) (filtered test inverse a) (filtered test inverse b)

-- nothing in any order is nothing
pub none_in_order : {S : Type 0} (list : List S) → IsPermutation [] list → list ≡ []
none_in_order [] h = refl
none_in_order (s ∷ list) h = let same = length_permutation [] (s ∷ list) h in absurd (omega (arith, same))

module _ {S : Type 0} (same : S → S → Bool) (order : List S → List S) (test : S → Bool) where
  -- the sorted candidates, by what is found of a package
  pub sorted_alike : (favored first : Option S) (candidates found : List S) → favored ≡ first → candidates ≡ found
      → favored_first same favored (order (filtered test false candidates))
      ≡ favored_first same first (order (filtered test false found))
  sorted_alike favored first candidates found alike listed =
      ap (λ f. favored_first same f (order (filtered test false candidates))) alike
      ∙ ap (λ l. favored_first same first (order (filtered test false l))) listed

  -- where nothing is found, none are sorted
  pub none_sorted : ((list : List S) → IsPermutation list (order list)) → (first : Option S) (found : List S) →
      None ≡ first → [] ≡ found
      → [] ≡ favored_first same first (order (filtered test false found))
  none_sorted permutes first found alike listed =
      sym (none_in_order (order []) (permutes [])) ∙ sorted_alike None first [] found alike listed
