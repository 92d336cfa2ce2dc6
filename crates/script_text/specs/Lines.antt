-- The lines of a text.
use Rattle.std.specs.Prelude.{◌≡◌, ℕ, ◌-◌, ◌==◌, Bool, true, ◌&&◌, nat_le, List, []}
use Rattle.std.specs.Prelude.{◌∷◌, ◌++◌, length, take, slice_index_or, if◌then◌else◌}
use Rattle.std.specs.List.{list_all}

-- a line but for the carriage return at its end
abbrev pub without_return : List ℕ → List ℕ
without_return line = if slice_index_or line (length line - 1) 0 == 13 then take (length line - 1) line else line

-- the line that the text's end leaves: none where there is no byte of it
abbrev pub last_line : List ℕ → List (List ℕ)
last_line [] = []
last_line (b ∷ bs) = without_return (b ∷ bs) ∷ []

-- the lines of a text, of whose first line these bytes were read
abbrev pub lines_from : List ℕ → List ℕ → List (List ℕ)
lines_from begun [] = last_line begun
lines_from begun (b ∷ bs) = if b == 10 then without_return begun ∷ lines_from [] bs else lines_from (begun ++ b ∷ []) bs

-- the lines of a text: each ends with a line feed or with the text
abbrev pub lines : List ℕ → List (List ℕ)
lines text = lines_from [] text

-- a character of ASCII from this one to the tilde
abbrev pub is_from : ℕ → ℕ → Bool
is_from first b = nat_le first b && nat_le b 126

-- a byte of ASCII's printed characters, or the blank
abbrev pub is_printed : ℕ → Bool
is_printed = is_from 32

abbrev pub IsPrinted : List ℕ → Type 0
IsPrinted bytes = list_all is_printed bytes ≡ true
