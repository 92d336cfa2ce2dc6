-- The stanzas of a text.
use Rattle.std.specs.Prelude.{ℕ, ◌==◌, Bool, false, true, List, [], ◌∷◌, length, filter, if◌then◌else◌}
use Rattle.std.specs.List.{slice_split}

-- the empty line that ends a stanza
abbrev pub is_end : List ℕ → Bool
is_end field = length field == 0

abbrev pub is_filled : {A : Type 0} → List A → Bool
is_filled [] = false
is_filled (x ∷ xs) = true

-- the stanzas that these fields make: ends stand between them
abbrev pub stanzas : List (List ℕ) → List (List (List ℕ))
stanzas fields = filter is_filled (slice_split is_end fields)

-- the fields before the first end
abbrev pub front : List (List ℕ) → List (List ℕ)
front [] = []
front (field ∷ rest) = if is_end field then [] else field ∷ front rest

-- the fields behind the first end
abbrev pub behind : List (List ℕ) → List (List ℕ)
behind [] = []
behind (field ∷ rest) = if is_end field then rest else behind rest
