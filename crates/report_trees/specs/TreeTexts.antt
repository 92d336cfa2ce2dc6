-- The text of a forest: a row for each line. Which line leads to which are the edges, and what a line says its text.
use Rattle.std.specs.Prelude.{◌≡◌, ℕ, zero, suc, ◌+◌, Bool, true, false, not, ◌==◌, ◌&&◌, ◌||◌, List, [], ◌∷◌, ◌++◌}
use Rattle.std.specs.Prelude.{codes, decimal, length, slice_index_or, Option, None, Some}
use Rattle.std.specs.List.{list_any}
use Rattle.report_trees.specs.Forests.{Forest, IsForest, all_rows, has_edge}
use Rattle.report_trees.specs.declared.row.NumberedRow.{NumberedRow}
use Rattle.report_trees.specs.declared.row.Row.{Row}

-- whether it is this line
abbrev pub is_line : Option ℕ → ℕ → Bool
is_line None line = false
is_line (Some other) line = other == line

-- whether a row refers to another one: it leads there, and the other one doesn't stand right below it
abbrev pub refers : List (List Bool) → Row → Row → Bool
refers edges from to = has_edge edges from.line to.line && not (is_line to.parent from.line)

-- whether a row of these refers to it
abbrev pub is_referred_to : List (List Bool) → List Row → Row → Bool
is_referred_to edges rows to = list_any (λ from. refers edges from to) rows

-- a number, if there is one
abbrev pub number_if : Bool → ℕ → Option ℕ
number_if true next = Some next
number_if false next = None

-- the number behind it
abbrev pub next_number : Bool → ℕ → ℕ
next_number true next = next + 1
next_number false next = next

-- those rows have numbers, in order from `next` on, to which one of all rows refers
abbrev pub numbered : List (List Bool) → List Row → ℕ → List Row → List NumberedRow
numbered edges all next [] = []
numbered edges all next (row ∷ rows) =
    let is = is_referred_to edges all row in
    record { row = row; number = number_if is next } ∷ numbered edges all (next_number is next) rows

-- two blanks for each step
abbrev pub indent : ℕ → List ℕ
indent zero = []
indent (suc depth) = codes "  " ++ indent depth

-- a row's number, behind its line
abbrev pub text_of_mark : Option ℕ → List ℕ
text_of_mark None = []
text_of_mark (Some number) = codes " (" ++ (decimal number ++ codes ")")

abbrev pub text_of_number : Option ℕ → List ℕ
text_of_number None = []
text_of_number (Some number) = decimal number

-- what stands before a row's first reference, and before a further one
abbrev pub before_reference : Bool → List ℕ
before_reference false = codes "; see "
before_reference true = codes ", "

-- a reference, if there is one; whether another one comes before it
abbrev pub text_of_reference : Bool → Bool → Option ℕ → List ℕ
text_of_reference true begun number = before_reference begun ++ text_of_number number
text_of_reference false begun number = []

-- the numbers of those rows to which a row refers
abbrev pub text_of_references : List (List Bool) → Row → Bool → List NumberedRow → List ℕ
text_of_references edges from begun [] = []
text_of_references edges from begun (to ∷ rows) =
    let is = refers edges from to.row in
    text_of_reference is begun to.number ++ text_of_references edges from (begun || is) rows

-- the text at a place
abbrev pub text_at : List (List ℕ) → ℕ → List ℕ
text_at texts place = slice_index_or texts place []

module _ (edges : List (List Bool)) (texts : List (List ℕ)) where
  -- a row as a line of text, among all rows
  abbrev pub text_of_row : List NumberedRow → NumberedRow → List ℕ
  text_of_row all row =
      indent row.row.depth ++ (text_at texts row.row.line ++ (text_of_mark row.number
      ++ (text_of_references edges row.row false all ++ codes "\n")))

  abbrev pub text_of_rows : List NumberedRow → List NumberedRow → List ℕ
  text_of_rows all [] = []
  text_of_rows all (row ∷ rows) = text_of_row all row ++ text_of_rows all rows

  abbrev pub text_of_all : List NumberedRow → List ℕ
  text_of_all rows = text_of_rows rows rows

  -- the rows of a forest as a text
  abbrev pub text_of_forest : List Row → List ℕ
  text_of_forest rows = text_of_all (numbered edges rows 1 rows)

-- the text of a forest of lines with these edges and texts
pub record IsTree (edges : List (List Bool)) (texts : List (List ℕ)) (text : List ℕ) : Type 0 where
  pub forest : Forest
  pub is_forest : IsForest (has_edge edges) (length edges) forest
  pub is : text ≡ text_of_forest edges texts (all_rows forest)
