-- What the calls on watch lists promise: the definitions in their contracts, however the lists are stored.
use Rattle.std.specs.Prelude.{◌≡◌, ℕ, ◌+◌, ◌<◌, true, if◌then◌else◌, List, [], ◌∷◌, ◌++◌}
use Rattle.std.specs.Prelude.{length, Option, Some, None, slice_index_or, slice_set}
use Rattle.typed_ids.specs.TotalMaps.{IsUpdate}
use Rattle.decisions.specs.Literals.{Lit}
use Rattle.watch_map.specs.declared.watched_literals.WatchedLiterals.{WatchedLiterals}
use Rattle.watch_map.specs.Watching.{is_literal_in, is_clause_in, started, moved, before, behind}
use Rattle.watch_map.specs.WatchLists.{WatchLists, Watches, Position, record_of, watched_by, watchers}
use Rattle.watch_map.specs.WatchLists.{HasRoom, AreWatched, literal_of, clause_of, index_of, IsPlaced, IsPrevious}
use Rattle.watch_map.specs.WatchLists.{link, IsChain}
use Rattle.watch_map.specs.declared.nodes.WatchNode.{WatchNode}

-- ---- lists

-- whatever the records: the lists are the same
abbrev pub SameLists : WatchLists → WatchLists → Type 0
SameLists old new = (watches : Watches) → AreWatched old watches
    → AreWatched new watches × ((l : Lit) → watchers new watches l ≡ watchers old watches l)

-- whatever the other records: once its own stands at its id, the clause is at the front of both its lists
abbrev pub Starts : WatchLists → WatchedLiterals → ℕ → WatchLists → Type 0
Starts old watched clause new = (before after : Watches) → AreWatched old before → watched_by before clause ≡ []
    → IsUpdate (record_of before) clause (Some watched) (record_of after)
    → AreWatched new after ×
    ((l : Lit) → watchers new after l ≡ started clause watched.watched_literals (watchers old before) l)

-- ---- room

-- no room is lost
abbrev pub KeepsRoom : WatchLists → WatchLists → Type 0
KeepsRoom old new = (l : Lit) (n : ℕ) → HasRoom old l n → HasRoom new l n

-- one addition to the list of each of these literals used the room for one
abbrev pub UsesRoom : List Lit → WatchLists → WatchLists → Type 0
UsesRoom literals old new =
    (l : Lit) (n : ℕ) → HasRoom old l (if is_literal_in l literals then n + 1 else n) → HasRoom new l n

-- there is room for one addition to the list of each of these literals
abbrev pub HaveRoom : WatchLists → List Lit → Type 0
HaveRoom map literals = (l : Lit) → is_literal_in l literals ≡ true → HasRoom map l 1

-- there is room for this number of additions to the list of each of these literals
abbrev pub HaveRooms : WatchLists → ℕ → List Lit → Type 0
HaveRooms map additions literals = (l : Lit) → is_literal_in l literals ≡ true → HasRoom map l additions

-- ---- cursors

-- the clauses that a cursor has passed
abbrev pub passed : Position → WatchLists → Watches → List ℕ
passed cursor map watches = before (clause_of cursor) (watchers map watches (literal_of cursor))

-- those behind the one at which it stands
abbrev pub rest : Position → WatchLists → Watches → List ℕ
rest cursor map watches = behind (clause_of cursor) (watchers map watches (literal_of cursor))

-- those that a walk hasn't left yet
abbrev pub remaining : Option Position → WatchLists → Watches → List ℕ
remaining None map watches = []
remaining (Some cursor) map watches = clause_of cursor ∷ rest cursor map watches

-- a cursor stands in these lists, at a clause that watches its literal
pub record StandsIn (cursor : Position) (map : WatchLists) (watches : Watches) : Type 0 where
  pub watched : AreWatched map watches
  pub member : is_clause_in (clause_of cursor) (watchers map watches (literal_of cursor)) ≡ true
  pub within : index_of cursor < length (watched_by watches (clause_of cursor))
  pub watch : slice_index_or (watched_by watches (clause_of cursor)) (index_of cursor) (literal_of cursor) ≡
      literal_of cursor
  pub placed : IsPlaced cursor map watches

-- a cursor stands in the list of this literal, behind these of its clauses
pub record StandsBehind (front : List ℕ) (literal : Lit) (map : WatchLists) (watches : Watches)
    (cursor : Position) : Type 0 where
  pub stands : StandsIn cursor map watches
  pub literal_is : literal_of cursor ≡ literal
  pub front_is : passed cursor map watches ≡ front

-- a walk of this literal's list came behind the node `previous`, and behind these clauses; `next` is the first of those
-- ahead
pub record IsReached (literal : Lit) (previous : Option WatchNode) (next : Option ℕ) (map : WatchLists)
    (watches : Watches) (front ahead : List ℕ) : Type 0 where
  pub list : watchers map watches literal ≡ front ++ ahead
  pub known : IsPrevious watches literal previous front
  pub linked : IsChain (link watches literal) next ahead

-- the clause at which a cursor stands watches another literal in the place of the cursor's
pub record Moves (cursor : Position) (to : Lit) (map : WatchLists) (watches : Watches) (map' : WatchLists)
    (watches' : Watches) : Type 0 where
  pub watched : AreWatched map' watches'
  pub lists : (l : Lit) → watchers map' watches' l ≡
      moved (clause_of cursor) (literal_of cursor) to (watchers map watches) l
  pub walked : watchers map' watches' (literal_of cursor) ≡ passed cursor map watches ++ rest cursor map watches
  pub literals : IsUpdate (watched_by watches) (clause_of cursor)
      (slice_set (watched_by watches (clause_of cursor)) (index_of cursor) to) (watched_by watches')
