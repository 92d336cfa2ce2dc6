-- Lines that are skipped, and those that say something.
use Rattle.std.specs.Prelude.{◌≡◌, ℕ, ◌==◌, Bool, false, true, List, [], ◌∷◌, Option, None, Some, ⊤, if◌then◌else◌}
use Rattle.std.specs.List.{list_all}
use Rattle.script_text.specs.Lines.{is_printed, IsPrinted}
use Rattle.script_text.specs.Words.{words}
use Rattle.script_text.specs.declared.statement.Line.{Line}
use Rattle.script_text.specs.declared.statement.Line.TheVariants.{Skipped, Unreadable, Says}
use Rattle.script_text.specs.declared.statement.Statement.{Statement}

-- a word that begins a comment
abbrev pub is_comment : List ℕ → Bool
is_comment [] = false
is_comment (b ∷ bs) = b == 35

-- the first words of a line that is skipped: none, or a comment's
abbrev pub IsSkipped : List (List ℕ) → Type 0
IsSkipped [] = ⊤
IsSkipped (word ∷ rest) = is_comment word ≡ true

-- what a line says: with a byte that isn't printed it is unreadable; else it is skipped, or has a first word and others
abbrev pub MeansWords : List ℕ → Line Statement → Type 0
MeansWords line Unreadable = list_all is_printed line ≡ false
MeansWords line Skipped = (list_all is_printed line ≡ true) × IsSkipped (words line)
MeansWords line (Says s) = (list_all is_printed line ≡ true) × (is_comment s.keyword.now ≡ false)
    × (words line ≡ s.keyword.now ∷ words s.rest.now)

-- of the lines of a text the first says so, and these are the others
abbrev pub FirstMeans : List (List ℕ) → Line Statement → List (List ℕ) → Type 0
FirstMeans lines said others = (line : List ℕ) × (lines ≡ line ∷ others) × MeansWords line said

-- what lines say in a format in which `read` gives what a first word and the others say
module _ {T : Type 0} (read : List ℕ → List (List ℕ) → Option T) where
  abbrev pub says : Option T → Line T
  says None = Unreadable
  says (Some said) = Says said

  -- what words say: none, or a comment's, are skipped
  abbrev pub words_say : List (List ℕ) → Line T
  words_say [] = Skipped
  words_say (keyword ∷ ws) = if is_comment keyword then Skipped else says (read keyword ws)

  -- what a line says
  abbrev pub line_says : List ℕ → Line T
  line_says line = if list_all is_printed line then words_say (words line) else Unreadable

  -- what a statement says that was read of a line
  abbrev pub statement_says : Line Statement → Line T
  statement_says Skipped = Skipped
  statement_says Unreadable = Unreadable
  statement_says (Says s) = says (read s.keyword.now (words s.rest.now))

-- what is after the first word is printed
abbrev pub IsRestPrinted : Line Statement → Type 0
IsRestPrinted (Says s) = IsPrinted s.rest.now
IsRestPrinted _ = ⊤
