-- The fields of a text.
use Rattle.std.specs.Prelude.{ℕ, ◌==◌, ◌&&◌, ◌||◌, Bool, false, not, List, [], ◌∷◌, ◌++◌, if◌then◌else◌}

-- these bytes go on with the line before: they begin with a blank or a tab
abbrev pub goes_on : List ℕ → Bool
goes_on [] = false
goes_on (c ∷ rest) = (c == 32) || (c == 9)

-- the field that the text's end leaves: none if there is no byte of it
abbrev pub last_field : List ℕ → List (List ℕ)
last_field [] = []
last_field (c ∷ rest) = (c ∷ rest) ∷ []

-- the fields of a text, of whose first field these bytes were read
abbrev pub fields_from : List ℕ → List ℕ → List (List ℕ)
fields_from begun [] = last_field begun
fields_from begun (c ∷ rest) =
    if (c == 10) && not (goes_on rest) then begun ∷ fields_from [] rest else fields_from (begun ++ c ∷ []) rest

-- the fields of a text: each ends with a line feed that no blank or tab follows, or with the text; one that is empty is
-- the line that ends a stanza
abbrev pub fields : List ℕ → List (List ℕ)
fields text = fields_from [] text
