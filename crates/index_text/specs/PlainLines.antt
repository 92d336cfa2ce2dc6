-- Lines that were read, as lists and numbers.
use Rattle.std.specs.Prelude.{ℕ, List, ◌∷◌, map, Option, None, Some}
use Rattle.std.specs.declared.vec.Vec.{Vec}
use Rattle.index_text.specs.Indexes.{NumberedWords}
use Rattle.index_text.specs.Printed.{plain_said}
use Rattle.index_text.specs.declared.line.Line.{Line}
use Rattle.script_text.specs.Words.{words}
use Rattle.script_text.specs.declared.statement.Line.{Line as TextLine}
use Rattle.script_text.specs.declared.statement.Line.TheVariants.{Skipped, Unreadable, Says}
use Rattle.script_text.specs.declared.statement.Statement.{Statement}

abbrev pub plain_line : Line → NumberedWords
plain_line line = record { number = line.number; words = plain_said line.said }

abbrev pub plain_lines : {A : Type 0} → Vec Line A → List NumberedWords
plain_lines lines = map plain_line lines.items

-- the line of this number, if what was read says something
abbrev pub line_meant : ℕ → TextLine Statement → Option NumberedWords
line_meant number Skipped = None
line_meant number Unreadable = Some (record { number = number; words = None })
line_meant number (Says said) = Some (record { number = number; words = Some (said.keyword.now ∷ words said.rest.now) })
