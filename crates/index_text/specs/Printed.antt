-- What was read of a line: its words, and that they are printed.
use Rattle.std.specs.Prelude.{ℕ, Bool, true, ◌&&◌, List, [], ◌∷◌, slice_get, Option, None, Some, option_map, unwrap_or}
use Rattle.std.specs.List.{list_all}
use Rattle.script_text.specs.Lines.{is_printed, lines}
use Rattle.script_text.specs.Words.{words}
use Rattle.script_text.specs.declared.statement.Statement.{Statement}

abbrev pub is_said_printed : Option Statement → Bool
is_said_printed None = true
is_said_printed (Some said) = list_all is_printed said.keyword.now && list_all is_printed said.rest.now

-- the words of a line
abbrev pub plain_said : Option Statement → Option (List (List ℕ))
plain_said said = option_map (λ (s : Statement). s.keyword.now ∷ words s.rest.now) said

-- the first line of a text; empty if there is none
abbrev pub first_line : List ℕ → List ℕ
first_line text = unwrap_or (slice_get (lines text) 0) []
