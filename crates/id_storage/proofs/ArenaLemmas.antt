-- What callers of an arena need of the pairs that it shows.
use Rattle.std.specs.Prelude.{◌≡◌, ℕ, ◌+◌, List, [], ◌∷◌, length, map, refl}
use Rattle.std.proofs.Common.{ap, ◌∙◌}
use Rattle.std.proofs.lemmas.List.{length-map}
use Rattle.std.proofs.lemmas.List.FromFn.{length-enumerate_from}
use Rattle.std.specs.List.{enumerate_from}
use Rattle.id_storage.specs.Arena.{pairs_from}

module _ {Id V : Type 0} (id_at : ℕ → Id) where
  -- one pair for each value
  pub count_of_pairs : (first : ℕ) (values : List V) → length (pairs_from id_at first values) ≡ length values
  count_of_pairs first values = length-map (enumerate_from first values) _ ∙ length-enumerate_from first values

  -- the values of the pairs are the values
  pub values_of_pairs : (first : ℕ) (values : List V) → map (λ pair. pair.1) (pairs_from id_at first values) ≡ values
  values_of_pairs first [] = refl
  values_of_pairs first (value ∷ others) =
      ap (λ (rest : List V). value ∷ rest) (values_of_pairs (first + 1) others)
