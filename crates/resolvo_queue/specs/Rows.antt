-- The rows of a requirement, and its frontier under the values of the variables.
pub mod ByVariable
pub mod Listing
pub mod States
use Rattle.std.specs.Prelude.{ℕ, ◌<◌, ◌^◌, Bool, ◌==◌, ◌&&◌, if◌then◌else◌, List, [], map, find}
use Rattle.std.specs.Prelude.{count_by, flat_map, length, zip, Option, None, Some, option_map}
use Rattle.resolvo_queue.specs.Types.{Frontier, known_false, known_true, list_all, list_any, lookup, Requirement}
use Rattle.resolvo_queue.specs.Types.{same_requirement, sets_of, undecided, Universe, Values, Vec, VersionSetId}

-- a row: the variable of a candidate, and the version set in whose list it stands
pub record Row : Type 0 where
  pub set : VersionSetId
  pub variable : ℕ

-- the rows of a version set's list
abbrev pub list_rows : VersionSetId → List ℕ → List Row
list_rows set list = map (λ x. record { set = set; variable = x }) list

-- the rows of version sets with their lists: the lists in order, repeats kept
abbrev pub rows : List VersionSetId → List (List ℕ) → List Row
rows sets lists = flat_map (λ (l : VersionSetId × List ℕ). list_rows l.0 l.1) (zip sets lists)

-- what a look-up of lists gave; nothing stands for none
abbrev pub lists_or_none : {A : Type 0} → Option (Vec (Vec ℕ A) A) → List (List ℕ)
lists_or_none None = []
lists_or_none (Some lists) = map (λ list. list.items) lists.items

-- the lists that are kept for a requirement
abbrev pub lists_loaded : {A : Type 0} → List (Requirement × Vec (Vec ℕ A) A) → Requirement → List (List ℕ)
lists_loaded loaded requirement = lists_or_none (lookup (same_requirement requirement) loaded)

-- all candidates of a requirement, list by list
abbrev pub candidates : {A : Type 0} → List (Requirement × Vec (Vec ℕ A) A) → Requirement → List ℕ
candidates loaded requirement = flat_map (λ list. list) (lists_loaded loaded requirement)

-- each requirement's lists hold fewer rows than 2^40, so that they can be counted
abbrev pub AreFew : {A : Type 0} → List (Requirement × Vec (Vec ℕ A) A) → Type 0
AreFew loaded = (requirement : Requirement) → length (candidates loaded requirement) < 2 ^ 40

-- the rows of a requirement
abbrev pub loaded_rows : {N S A : Type 0} → Universe N S → List (Requirement × Vec (Vec ℕ A) A) → Requirement → List Row
loaded_rows universe loaded requirement = rows (sets_of universe requirement) (lists_loaded loaded requirement)

module _ (val : Values) where
  -- a row is true: the requirement is satisfied
  abbrev pub has_true_row : List Row → Bool
  has_true_row rs = list_any (λ row. known_true (val row.variable)) rs

  -- all rows are false: the requirement can't be satisfied any more
  abbrev pub all_false : List Row → Bool
  all_false rs = list_all (λ row. known_false (val row.variable)) rs

  -- its variable is undecided
  abbrev pub is_undecided_row : Row → Bool
  is_undecided_row row = undecided (val row.variable)

  -- how many rows of the version set are undecided
  abbrev pub undecided_rows : VersionSetId → List Row → ℕ
  undecided_rows set rs = count_by (λ row. (row.set.0 == set.0) && is_undecided_row row) rs

  -- the frontier at a row
  abbrev pub frontier_at : List Row → Row → Frontier
  frontier_at rs row = record { variable = row.variable; set = row.set; count = undecided_rows row.set rs }

  -- the first undecided row's; none if a row is true or no row is undecided
  abbrev pub frontier : List Row → Option Frontier
  frontier rs = if has_true_row rs then None else option_map (frontier_at rs) (find is_undecided_row rs)
