-- Marks: how far a saturation had come that found all clauses settled, so that a later one may go on from there.
use Rattle.std.specs.Prelude.{◌≡◌, ◌⊎◌, ℕ, ◌-◌, ◌≤◌, Bool, not, ◌&&◌, nat_le, List, []}
use Rattle.std.specs.Prelude.{◌∷◌, ◌++◌, length, take, slice_index_or, filter, fold, All}
use Rattle.std.specs.List.{AllPairs}
use Rattle.decisions.specs.Literals.{Lit, variable_of, is_false_literal}
use Rattle.decisions.specs.Trail.{Entry, val, level_of}
use Rattle.watch_map.specs.WatchInvariant.{AreWatchesSatisfied, val_before}
use Rattle.watch_map.specs.Visits.{AreUnwatchedTrue}
use Rattle.watch_map.specs.declared.marks.Mark.{Mark}
use Rattle.watch_map.specs.declared.marks.Limit.{Limit}
use Rattle.watch_map.specs.declared.marks.Limit.TheVariants.{Place, Level}

-- ---- what a mark says

-- a mark of a trail: its entries are those before its place. The watches that they make false they satisfy;
-- each clause below its bound that watches nothing they make true; and no level of them is above its level
pub record IsMark (literals watched : ℕ → List Lit) (entries : List Entry) (mark : Mark) : Type 0 where
  pub within : mark.place ≤ length entries
  pub satisfied : AreWatchesSatisfied (val_before mark.place entries) (val_before mark.place entries) watched
  pub unwatched : AreUnwatchedTrue literals watched mark.clauses (val_before mark.place entries)
  pub levels : (x : ℕ) → level_of (take mark.place entries) x ≤ mark.level

abbrev pub AreMarks : (ℕ → List Lit) → (ℕ → List Lit) → List Entry → List Mark → Type 0
AreMarks literals watched entries marks = All (IsMark literals watched entries) marks

-- the mark of no entries and no clauses, which any trail has
abbrev pub beginning : Mark
beginning = record { place = 0; clauses = 0; level = 0 }

-- ---- the stack of marks, the newest last

-- the newest mark, that of the beginning if there is none
abbrev pub newest_mark : List Mark → Mark
newest_mark marks = slice_index_or marks (length marks - 1) beginning

-- a later mark: it has as many entries or more, and isn't of a lower level
pub record IsBehind (mark later : Mark) : Type 0 where
  pub place : mark.place ≤ later.place
  pub level : mark.level ≤ later.level

-- neither places nor levels fall
abbrev pub AreRising : List Mark → Type 0
AreRising marks = AllPairs IsBehind marks

-- a mark of more entries than stand before the place, or of this level or a higher one
abbrev pub is_from : Limit → Mark → Bool
is_from (Place place) mark = nat_le place mark.place
is_from (Level level) mark = nat_le level mark.level

-- the marks below a limit
abbrev pub marks_below : Limit → List Mark → List Mark
marks_below limit marks = filter (λ mark. not (is_from limit mark)) marks

-- the marks under whose entries the literal can't be false: all, where it isn't false now
abbrev pub not_false_at : List Entry → List Mark → Lit → List Mark
not_false_at entries marks l =
    filter (λ mark. not (is_false_literal (val entries) l && is_from (Level (level_of entries (variable_of l))) mark))
    marks

-- the same of each of these literals
abbrev pub none_false_at : List Entry → List Mark → List Lit → List Mark
none_false_at entries marks literals = fold (not_false_at entries) marks literals

-- the same of the watches of each of these clauses
abbrev pub none_watched_false : List Entry → List Mark → List (List Lit) → List Mark
none_watched_false entries marks watches = fold (none_false_at entries) marks watches

-- a mark more, in the place of those of as many entries; or these are only forgotten, where memory was refused
abbrev pub IsRemembered : Mark → List Mark → List Mark → Type 0
IsRemembered mark old new =
    (new ≡ marks_below (Place mark.place) old ++ mark ∷ []) ⊎ (new ≡ marks_below (Place mark.place) old)
