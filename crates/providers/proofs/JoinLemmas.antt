-- Lists that are joined, by what is joined.
use Rattle.std.proofs.Common.{◌≡◌, List, [], ◌∷◌, ◌++◌, map, refl, ◌∙◌, sym, ap}
use Rattle.std.specs.List.{join_by}
use Rattle.std.proofs.lemmas.List.Folds.{flat_map-map}

module _ {A : Type 0} (separator : List A) where
  pub join_by-mapped : {X : Type 0} (f : X → List A) (xs : List X) →
      join_by f separator xs ≡ join_by (λ piece. piece) separator (map f xs)
  join_by-mapped f [] = refl
  join_by-mapped f (x ∷ xs) = ap (λ rest. f x ++ rest) (sym (flat_map-map (λ piece. separator ++ piece) f xs))

  pub joined_alike : {X Y : Type 0} (f : X → List A) (h : Y → List A) (xs : List X) (ys : List Y) → map f xs ≡ map h ys
      → join_by f separator xs ≡ join_by h separator ys
  joined_alike f h xs ys same =
      join_by-mapped f xs ∙ ap (join_by (λ piece. piece) separator) same ∙ sym (join_by-mapped h ys)
