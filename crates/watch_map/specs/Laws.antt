-- Laws for callers: what follows from the definitions in the contracts, however the lists are stored.
use Rattle.std.specs.Prelude.{◌≡◌, ◌≢◌, ℕ, ◌≤◌, true, [], ◌∷◌, ◌++◌, length, Some, None}
use Rattle.typed_ids.specs.TotalMaps.{IsUpdate}
use Rattle.decisions.specs.Literals.{Lit}
use Rattle.watch_map.specs.declared.watched_literals.WatchedLiterals.{WatchedLiterals}
use Rattle.watch_map.specs.Watching.{is_clause_in, started}
use Rattle.watch_map.specs.WatchLists.{WatchLists, Watches, Position, record_of, watched_by}
use Rattle.watch_map.specs.WatchLists.{watchers, HasRoom, AreWatched, literal_of, clause_of}
use Rattle.watch_map.specs.WatchCalls.{SameLists, Starts, StandsIn, passed, rest}

-- ---- records

-- records that are the same at each id belong to the map as well, and show the same lists
abbrev pub SameRecordsBelong : Type 0
SameRecordsBelong = (map : WatchLists) (old new : Watches) →
    ((clause : ℕ) → record_of new clause ≡ record_of old clause)
    → AreWatched map old → AreWatched map new × ((l : Lit) → watchers map new l ≡ watchers map old l)

-- at the end there is room for the record of a new clause, which watched nothing before
abbrev pub RecordsGrow : Type 0
RecordsGrow = (watches : Watches) (watched : WatchedLiterals) → (watched_by watches (length watches) ≡ [])
    × IsUpdate (record_of watches) (length watches) (Some watched) (record_of (watches ++ Some watched ∷ []))

-- a clause that starts with the next id belongs to the map once its record stands at the end
abbrev pub NewClausesJoin : Type 0
NewClausesJoin = (old new : WatchLists) (watches : Watches) (watched : WatchedLiterals) (clause : ℕ) →
    AreWatched old watches
    → Starts old watched clause new → clause ≡ length watches → AreWatched new (watches ++ Some watched ∷ [])
    × ((l : Lit) → watchers new (watches ++ Some watched ∷ []) l ≡
    started clause watched.watched_literals (watchers old watches) l)

-- a clause without watches changes no record
abbrev pub RecordsSkip : Type 0
RecordsSkip = (watches : Watches) (clause : ℕ) → record_of (watches ++ None ∷ []) clause ≡ record_of watches clause

-- ---- room

-- room for many is room for fewer
abbrev pub RoomIsForFewer : Type 0
RoomIsForFewer = (map : WatchLists) (l : Lit) (n k : ℕ) → k ≤ n → HasRoom map l n → HasRoom map l k

-- ---- cursors

-- a cursor divides its list: what it has passed, the clause at which it stands, and the rest
abbrev pub CursorsDivide : Type 0
CursorsDivide = (cursor : Position) (map : WatchLists) (watches : Watches) → StandsIn cursor map watches
    → watchers map watches (literal_of cursor) ≡ passed cursor map watches ++ clause_of cursor ∷ rest cursor map watches

-- a walk doesn't visit its clause again
abbrev pub ClausesAreVisitedOnce : Type 0
ClausesAreVisitedOnce = (cursor : Position) (map : WatchLists) (watches : Watches) → StandsIn cursor map watches
    → (clause : ℕ) → is_clause_in clause (rest cursor map watches) ≡ true → clause ≢ clause_of cursor

-- a cursor outlives what leaves the lists as they were, as making room does
abbrev pub CursorsOutliveRoom : Type 0
CursorsOutliveRoom = (cursor : Position) (old new : WatchLists) (watches : Watches) → SameLists old new
    → StandsIn cursor old watches → StandsIn cursor new watches
