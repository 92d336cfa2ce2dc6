-- Forests: trees of the lines of a report. A line is named by its place.
use Rattle.std.specs.Prelude.{◌≡◌, ℕ, ◌+◌, ⊤, All, Bool, true, Contains, List, [], ◌∷◌, ◌++◌, map, slice_index_or}
use Rattle.std.specs.Prelude.{false, Option, None, Some}
use Rattle.std.specs.List.{range_with_len}
use Rattle.std.specs.List.Sorted.{IsPermutation}
use Rattle.report_trees.specs.declared.row.Row.{Row}

-- no tree, or a first one, which is a line and the trees right below it, and the trees beside it
pub data Forest : Type 0 where
  none : Forest
  tree : (line : ℕ) → (below : Forest) → (beside : Forest) → Forest

-- its lines, from above
abbrev pub lines_of : Forest → List ℕ
lines_of none = []
lines_of (tree line below beside) = line ∷ (lines_of below ++ lines_of beside)

-- a row for each line, from above: how deep it stands, and the line right below which it stands
abbrev pub rows_of : ℕ → Option ℕ → Forest → List Row
rows_of depth parent none = []
rows_of depth parent (tree line below beside) =
    record { line = line; depth = depth; parent = parent }
    ∷ (rows_of (depth + 1) (Some line) below ++ rows_of depth parent beside)

abbrev pub all_rows : Forest → List Row
all_rows forest = rows_of 0 None forest

-- which line leads to which
module _ (leads : ℕ → ℕ → Bool) where
  -- the line above leads to the line, if there is one
  abbrev pub IsLedTo : Option ℕ → ℕ → Type 0
  IsLedTo None line = ⊤
  IsLedTo (Some parent) line = leads parent line ≡ true

  -- each line is led to by the one right below which it stands; the first trees stand right below this one
  abbrev pub AreLed : Option ℕ → Forest → Type 0
  AreLed parent none = ⊤
  AreLed parent (tree line below beside) = IsLedTo parent line × AreLed (Some line) below × AreLed parent beside

  -- of all these lines, only those of a root's own tree lead to it
  abbrev pub HasOwnRoots : List ℕ → Forest → Type 0
  HasOwnRoots all none = ⊤
  HasOwnRoots all (tree line below beside) =
      All (λ other. leads other line ≡ true → Contains (line ∷ lines_of below) other) all × HasOwnRoots all beside

  -- a forest of this many lines
  pub record IsForest (count : ℕ) (forest : Forest) : Type 0 where
    pub each_once : IsPermutation (range_with_len 0 count) (lines_of forest)
    pub led : AreLed None forest
    pub own_roots : HasOwnRoots (lines_of forest) forest

-- for each line, to which lines it leads
abbrev pub edges_of : {L : Type 0} → (L → L → Bool) → List L → List (List Bool)
edges_of leads lines = map (λ from. map (leads from) lines) lines

-- whether one place leads to another
abbrev pub has_edge : List (List Bool) → ℕ → ℕ → Bool
has_edge edges from to = slice_index_or (slice_index_or edges from []) to false
