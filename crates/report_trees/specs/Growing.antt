-- How lines grow together to a forest: what the functions that do it promise each other.
use Rattle.std.specs.Prelude.{◌≡◌, ◌≢◌, ℕ, zero, suc, ◌+◌, ◌<◌, ◌≤◌, ⊤, All, Bool, true, false, List, [], ◌∷◌, ◌++◌}
use Rattle.std.specs.Prelude.{flat_map, length, map, slice_index_or, Option, None, Some}
use Rattle.std.specs.List.{range_with_len}
use Rattle.std.specs.List.Sorted.{IsPermutation}
use Rattle.std.specs.declared.vec.Vec.{Vec}
use Rattle.report_trees.specs.Forests.{AreLed, Forest, IsForest, all_rows, none, tree}
use Rattle.report_trees.specs.declared.growing.Spot.{Spot}
use Rattle.report_trees.specs.declared.row.Row.{Row}

abbrev pub parent_or : Option ℕ → ℕ → Option ℕ
parent_or None line = Some line
parent_or (Some parent) line = Some parent

-- the row, when its tree comes right below this one
abbrev pub moved_below : Row → Row → Row
moved_below above row = record {
  line = row.line;
  depth = row.depth + above.depth + 1;
  parent = parent_or row.parent above.line;
}

-- the rows of a tree with a branch right below the row at a place
abbrev pub grafted : List Row → ℕ → List Row → List Row
grafted [] place branch = []
grafted (row ∷ rows) zero branch = row ∷ (map (moved_below row) branch ++ rows)
grafted (row ∷ rows) (suc place) branch = row ∷ grafted rows place branch

-- no row is as deep as there are rows
abbrev pub IsShallow : List Row → Type 0
IsShallow rows = All (λ row. row.depth < length rows) rows

-- no tree, or that of this line
abbrev pub IsOneTree : ℕ → Forest → Type 0
IsOneTree root none = ⊤
IsOneTree root (tree line below beside) = (line ≡ root) × (beside ≡ none)

-- the rows of the tree of a line; none if that has become part of another one
pub record IsTreeOf (leads : ℕ → ℕ → Bool) (root : ℕ) (rows : List Row) : Type 0 where
  pub forest : Forest
  pub one : IsOneTree root forest
  pub is : rows ≡ all_rows forest
  pub led : AreLed leads None forest

-- the lines of rows
abbrev pub lines_in : List Row → List ℕ
lines_in rows = map (λ row. row.line) rows

-- none of the rows leads to the line
abbrev pub LeadNotTo : (ℕ → ℕ → Bool) → ℕ → List Row → Type 0
LeadNotTo leads line rows = All (λ row. leads row.line line ≡ false) rows

-- a tree for each line
abbrev pub single_trees : ℕ → List (List Row)
single_trees count = map (λ line. record { line = line; depth = 0; parent = None } ∷ []) (range_with_len 0 count)

-- the lists of vectors
abbrev pub lists : {X A : Type 0} → List (Vec X A) → List (List X)
lists vectors = map (λ vector. vector.items) vectors

-- the trees of the lines; a tree from this line on is led to only by rows of its own
pub record IsGrowing (leads : ℕ → ℕ → Bool) (from : ℕ) (trees : List (List Row)) : Type 0 where
  pub trees_of : (line : ℕ) → IsTreeOf leads line (slice_index_or trees line [])
  pub each_once : IsPermutation (range_with_len 0 (length trees)) (flat_map lines_in trees)
  pub own_roots : (line other : ℕ) → from ≤ line → other ≢ line → slice_index_or trees line [] ≢ []
      → LeadNotTo leads line (slice_index_or trees other [])

-- a row of another tree leads to the line
pub record LeadsFrom (leads : ℕ → ℕ → Bool) (line : ℕ) (trees : List (List Row)) (spot : Spot) : Type 0 where
  pub other : spot.tree ≢ line
  pub within : spot.tree < length trees
  pub row_within : spot.row < length (slice_index_or trees spot.tree [])
  pub leads_there : (row : Row)
      → leads (slice_index_or (slice_index_or trees spot.tree []) spot.row row).line line ≡ true

-- rows of a forest of this many lines
pub record AreRows (leads : ℕ → ℕ → Bool) (count : ℕ) (rows : List Row) : Type 0 where
  pub forest : Forest
  pub is_forest : IsForest leads count forest
  pub is : rows ≡ all_rows forest
