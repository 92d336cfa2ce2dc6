-- What is read of each part, one part after the other.
use Rattle.std.proofs.Common.{◌≡◌, ◌∙◌, List, [], ◌∷◌, ◌++◌, Option, None, Some, refl, ap, sym}
use Rattle.std.specs.Prelude.{option_map, option_and_then}
use Rattle.std.proofs.lemmas.List.{append_assoc}
use Rattle.index_text.specs.Sets.{each_of}

module _ {X Y : Type 0} (read : X → Option Y) where
  onto : (front front' : List Y) (y : Y) (rest : Option (List Y)) → front' ≡ front ++ y ∷ []
      → option_map (λ ys. front' ++ ys) rest ≡ option_map (λ ys. front ++ ys) (option_map (λ ys. y ∷ ys) rest)
  onto front front' y None is = refl
  onto front front' y (Some ys) is = ap (λ f. Some (f ++ ys)) is ∙ ap Some (append_assoc front (y ∷ []) ys)

  -- what is read of a part comes behind what was read before
  pub one_more : (front front' : List Y) (x : X) (y : Y) (rest : List X) (all : Option (List Y)) → read x ≡ Some y
      → front' ≡ front ++ y ∷ [] → option_map (λ ys. front ++ ys) (each_of read (x ∷ rest)) ≡ all
      → option_map (λ ys. front' ++ ys) (each_of read rest) ≡ all
  one_more front front' x y rest all says is so_far =
      onto front front' y (each_of read rest) is
      ∙ ap (λ o. option_map (λ ys. front ++ ys)
      (option_and_then (λ z. option_map (λ ys. z ∷ ys) (each_of read rest)) o)) (sym says)
      ∙ so_far
