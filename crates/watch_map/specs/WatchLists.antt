-- What a watch map, the records of all clauses and a cursor show: here the map has each literal's first clause, and a
-- clause's record the next one in each of its two lists.
use Rattle.std.specs.Prelude.{◌≡◌, ℕ, ◌<◌, ◌≤◌, ⊤, if◌then◌else◌, List, [], ◌∷◌, ◌++◌, length}
use Rattle.std.specs.Prelude.{Option, Some, None, MatchOption, slice_index_or, slice_set}
use Rattle.std.proofs.Common.{zero, suc}
use Rattle.typed_ids.specs.TotalMaps.{IsUpdate}
use Rattle.decisions.specs.Literals.{Lit}
use Rattle.decisions.specs.LiteralIndex.{literal_index}
use Rattle.id_storage.specs.Mapping.{value_at}
use Rattle.clauses.specs.Clauses.{same_literal}
use Rattle.watch_map.specs.declared.watched_literals.WatchedLiterals.{WatchedLiterals}
use Rattle.watch_map.specs.declared.nodes.Place.{Place}
use Rattle.watch_map.specs.declared.nodes.WatchNode.{WatchNode}
use Rattle.watch_map.specs.Watching.{IsExact, AreUnwatched, before}

-- ---- the map

-- what a map shows: the first of each literal's clauses, by the literals' indexes
abbrev pub WatchLists : Type 0
WatchLists = List (Option ℕ)

-- ---- the records

-- the records of all clauses, by their indexes
abbrev pub Watches : Type 0
Watches = List (Option WatchedLiterals)

-- a clause's record, where it has one
abbrev pub record_of : Watches → ℕ → Option WatchedLiterals
record_of watches clause = slice_index_or watches clause None

-- the literals of a record: none where there is no record
abbrev pub literals_in : Option WatchedLiterals → List Lit
literals_in None = []
literals_in (Some watched) = watched.watched_literals

-- a record that is linked to no clause
abbrev pub IsUnlinked : WatchedLiterals → Type 0
IsUnlinked watched = watched.next_watches ≡ None ∷ None ∷ []

-- the literals that a clause watches
abbrev pub watched_by : Watches → ℕ → List Lit
watched_by watches clause = literals_in (record_of watches clause)

-- these are the clauses that watch nothing, of those below a bound, which have records
pub record AreUnwatchedBelow (watches : Watches) (bound : ℕ) (ids : List ℕ) : Type 0 where
  pub within : bound ≤ length watches
  pub are : AreUnwatched (watched_by watches) bound ids

-- ---- links

-- of two links, that in the list of the literal
abbrev pub link_for : List Lit → List (Option ℕ) → Lit → Option ℕ
link_for literals links l =
    if same_literal l (slice_index_or literals 0 l) then slice_index_or links 0 None else slice_index_or links 1 None

-- the next clause in the list of a literal, by the record of one that watches it
abbrev pub next_in : Option WatchedLiterals → Lit → Option ℕ
next_in None l = None
next_in (Some watched) l = link_for watched.watched_literals watched.next_watches l

-- the same by the index of the watch
abbrev pub next_at : Option WatchedLiterals → ℕ → Option ℕ
next_at None index = None
next_at (Some watched) index = slice_index_or watched.next_watches index None

-- the next clause behind this one, in the list of a literal
abbrev pub link : Watches → Lit → ℕ → Option ℕ
link watches l clause = next_in (record_of watches clause) l

-- the clauses from the first on, each the next one of that before it, but no more than a bound
abbrev pub chain : ℕ → (ℕ → Option ℕ) → Option ℕ → List ℕ
chain zero next first = []
chain (suc n) next None = []
chain (suc n) next (Some clause) = clause ∷ chain n next (next clause)

-- these are the clauses from the first on, and the last one has no next
abbrev pub IsChain : (ℕ → Option ℕ) → Option ℕ → List ℕ → Type 0
IsChain next first [] = first ≡ None
IsChain next first (clause ∷ clauses) = (first ≡ Some clause) × IsChain next (next clause) clauses

abbrev pub HasTwoLinks : Option WatchedLiterals → Type 0
HasTwoLinks None = ⊤
HasTwoLinks (Some watched) = length watched.next_watches ≡ 2

-- ---- both

-- the clauses that watch a literal, front first: there are no more of them than records
unfoldable pub watchers : WatchLists → Watches → Lit → List ℕ
watchers map watches l = chain (length watches) (link watches l) (value_at map (literal_index l))

-- these records belong to this map: its lists are exact, and end
pub record AreWatched (map : WatchLists) (watches : Watches) : Type 0 where
  pub exact : IsExact (watched_by watches) (watchers map watches)
  pub links : (clause : ℕ) → HasTwoLinks (record_of watches clause)
  pub linked : (l : Lit) → IsChain (link watches l) (value_at map (literal_index l)) (watchers map watches l)

-- this number of additions to the list of the literal take no memory: a slot serves any number
unfoldable pub HasRoom : WatchLists → Lit → ℕ → Type 0
HasRoom map l n = literal_index l < length map

-- ---- cursors

-- what a cursor shows: the literal whose list it walks, the node in front, and that at which it stands
abbrev pub Position : Type 0
Position = Place

abbrev pub literal_of : Position → Lit
literal_of cursor = cursor.literal

abbrev pub clause_of : Position → ℕ
clause_of cursor = cursor.current.clause_id

abbrev pub index_of : Position → ℕ
index_of cursor = cursor.current.watch_index

-- the node is that of its clause in the list of the literal
pub record IsNode (watches : Watches) (l : Lit) (node : WatchNode) : Type 0 where
  pub within : node.watch_index < length (watched_by watches node.clause_id)
  pub watch : slice_index_or (watched_by watches node.clause_id) node.watch_index l ≡ l

-- the node is the last in front
abbrev pub IsPrevious : Watches → Lit → Option WatchNode → List ℕ → Type 0
IsPrevious watches l None front = front ≡ []
IsPrevious watches l (Some node) front = IsNode watches l node ×
    ((earlier : List ℕ) × (front ≡ earlier ++ node.clause_id ∷ []))

-- a cursor knows the node in front of the one at which it stands
abbrev pub IsPlaced : Position → WatchLists → Watches → Type 0
IsPlaced cursor map watches =
    IsPrevious watches (literal_of cursor) cursor.previous
    (before (clause_of cursor) (watchers map watches (literal_of cursor)))

-- the position at this clause, where there is one
abbrev pub IsCursorAt : Watches → Lit → Option WatchNode → Option ℕ → Option Position → Type 0
IsCursorAt watches l previous None result = result ≡ None
IsCursorAt watches l previous (Some clause) result = MatchOption result ⊥ (λ cursor.
    (cursor.literal ≡ l) × (cursor.previous ≡ previous) × (cursor.current.clause_id ≡ clause) ×
    IsNode watches l cursor.current)

-- ---- one record written

-- the clause of a node has a record, with two watches and two links
abbrev pub CanBeLinked : WatchNode → Option WatchedLiterals → Type 0
CanBeLinked node None = ⊥
CanBeLinked node (Some watched) =
    (node.watch_index < 2) × (length watched.watched_literals ≡ 2) × (length watched.next_watches ≡ 2)

abbrev pub with_next : ℕ → Option ℕ → Option WatchedLiterals → Option WatchedLiterals
with_next index next None = None
with_next index next (Some watched) = Some (record watched { next_watches = slice_set watched.next_watches index next })

abbrev pub with_watch : ℕ → Lit → Option ℕ → Option WatchedLiterals → Option WatchedLiterals
with_watch index l next None = None
with_watch index l next (Some watched) = Some (record watched {
  watched_literals = slice_set watched.watched_literals index l;
  next_watches = slice_set watched.next_watches index next;
})

-- `next` follows the node in front, or comes first where there is none
abbrev pub IsRelinked : Option WatchNode → Lit → Option ℕ → WatchLists → Watches → WatchLists → Watches → Type 0
IsRelinked None l next map watches map' watches' =
    IsUpdate (value_at map) (literal_index l) next (value_at map') × (watches' ≡ watches) × (length map' ≡ length map)
IsRelinked (Some node) l next map watches map' watches' =
    (map' ≡ map) × IsUpdate (record_of watches) node.clause_id
    (with_next node.watch_index next (record_of watches node.clause_id)) (record_of watches') ×
    (length watches' ≡ length watches)
