-- The words of a line.
use Rattle.std.specs.Prelude.{ℕ, ◌==◌, Bool, true, List, [], ◌∷◌, ◌++◌, if◌then◌else◌}
use Rattle.script_text.specs.Lines.{is_from, IsPrinted}

-- a byte of ASCII's printed characters: a word of a printed line has these alone
abbrev pub is_graphic : ℕ → Bool
is_graphic = is_from 33

-- the word that a blank or the end leaves: none where there is no byte of it
abbrev pub begun_word : List ℕ → List (List ℕ)
begun_word [] = []
begun_word (b ∷ bs) = (b ∷ bs) ∷ []

-- the words of a line, of whose first word these bytes were read
abbrev pub words_from : List ℕ → List ℕ → List (List ℕ)
words_from begun [] = begun_word begun
words_from begun (b ∷ bs) = if b == 32 then begun_word begun ++ words_from [] bs else words_from (begun ++ b ∷ []) bs

-- the words of a line: what is between its blanks
abbrev pub words : List ℕ → List (List ℕ)
words line = words_from [] line

-- whether a word ends before these bytes: at a blank or the end
abbrev pub ends_word : List ℕ → Bool
ends_word [] = true
ends_word (b ∷ bs) = b == 32

-- a word and what is after it
abbrev pub ArePrinted : List ℕ → List ℕ → Type 0
ArePrinted word rest = IsPrinted word × IsPrinted rest
