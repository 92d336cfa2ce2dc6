-- Members of a list.
use Rattle.std.specs.Prelude.{List, ◌∷◌}

-- x stands in the list
pub data Stands {X : Type 0} : X → List X → Type 0 where
  here : {x : X} {xs : List X} → Stands x (x ∷ xs)
  there : {x y : X} {xs : List X} → Stands x xs → Stands x (y ∷ xs)
