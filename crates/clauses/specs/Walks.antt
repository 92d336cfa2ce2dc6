-- Walks over the literals of a clause.
use Rattle.std.specs.Prelude.{◌≡◌, Bool, true, false, ◌⊎◌, List, [], ◌∷◌, ◌++◌}
use Rattle.std.specs.Prelude.{map, flat_map, Option, Some, None, option_to_list}
use Rattle.decisions.specs.Literals.{Lit, Pos}
use Rattle.clauses.specs.declared.literal_walk.LiteralWalk.{LiteralWalk}

-- a test, asked of one after another, passes at the result first; none where it passes at none
abbrev pub IsFirstTrue : {X : Type 0} → (X → Bool → Type 0) → List X → Option X → Type 0
IsFirstTrue answers [] result = result ≡ None
IsFirstTrue answers (x ∷ xs) result = (answers x true × (result ≡ Some x)) ⊎
    (answers x false × IsFirstTrue answers xs result)

-- the literals that a walk visits, in order
abbrev pub literals_in : {A : Type 0} → LiteralWalk A → List Lit
literals_in w = option_to_list w.first
    ++ (option_to_list w.second ++
    (w.stored.now ++ (map Pos w.candidates.now ++ flat_map (map Pos) (map (λ l. l.items) w.lists.now))))
