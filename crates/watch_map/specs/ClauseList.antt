-- The clauses of a store, what each of them watches, and the literals of the learnt ones. N are the names of packages.
use Rattle.std.specs.Prelude.{◌≡◌, ℕ, ◌+◌, ◌-◌, ◌<◌, ◌≤◌, ◌^◌, Bool, false, not, nat_lt, fold}
use Rattle.std.specs.Prelude.{◌&&◌, ◌||◌, if◌then◌else◌, List, [], ◌∷◌, ◌++◌, map, length}
use Rattle.std.specs.Prelude.{slice_set, slice_index_or, Option, option_map, unwrap_or}
use Rattle.std.specs.List.{All}
use Rattle.typed_ids.specs.Refusals.{are_ids_out}
use Rattle.decisions.specs.Literals.{Lit, Pos, Neg}
use Rattle.clauses.specs.Clauses.{same_literal, watch_pair, watch_ends}
use Rattle.clauses.specs.declared.clause.Clause.{Clause}
use Rattle.clauses.specs.declared.clause.Clause.TheVariants.{Learnt, ForbidMultipleInstances}
use Rattle.watch_map.specs.declared.watched_literals.WatchedLiterals.{WatchedLiterals}
use Rattle.watch_map.specs.Watching.{is_literal_in, IsExact, started, moved}
use Rattle.watch_map.specs.WatchLists.{WatchLists, Watches, literals_in, watchers}
use Rattle.watch_map.specs.WatchCalls.{HaveRoom, HaveRooms}

pub record Clauses (N : Type 0) : Type 0 where
  -- the clauses: the id of each is its place
  pub clauses : List (Clause N)
  -- the two literals that each of them watches, or none
  pub watches : List (List Lit)
  -- the literals of the learnt ones
  pub learnt : List (List Lit)
  -- for each literal the clauses that watch it, front first
  pub watchers : Lit → List ℕ

-- the state of a list of clauses
pub record ClauseListState (N : Type 0) : Type 0 where
  pub clauses : List (Clause N)
  -- a record for each clause that watches something
  pub records : Watches
  pub learnt : List (List Lit)
  pub lists : WatchLists
  -- for how many clauses, and for how many records, there is room in all
  pub clause_room : ℕ
  pub record_room : ℕ

-- the literals that are watched
abbrev pub literals_watched : Option WatchedLiterals → Option (List Lit)
literals_watched watches = option_map (λ w. w.watched_literals) watches

-- two literals, or none
abbrev pub two_or_none : Option (List Lit) → List Lit
two_or_none watched = unwrap_or watched []

-- these literals with another in the place of one
abbrev pub rewatched : Lit → Lit → List Lit → List Lit
rewatched from to literals = map (λ l. if same_literal l from then to else l) literals

-- of a variable x, a helper h and a sign: h where the sign is true, "not h" where it is false
abbrev pub helper_literal : ℕ × ℕ × Bool → Lit
helper_literal bit = if bit.2 then Pos bit.1 else Neg bit.1

-- what a clause "not x or h", or "not x or not h", watches
abbrev pub bit_watches : ℕ × ℕ × Bool → Option (List Lit)
bit_watches bit = watch_pair (Neg bit.0) (helper_literal bit)

module _ {N : Type 0} where
  -- the clauses of a state
  abbrev pub contents : ClauseListState N → Clauses N
  contents state = record {
    clauses = state.clauses;
    watches = map literals_in state.records;
    learnt = state.learnt;
    watchers = watchers state.lists state.records;
  }

  -- no clauses
  abbrev pub no_clauses : Clauses N
  no_clauses = record { clauses = []; watches = []; learnt = []; watchers = λ l. [] }

  -- the literals that a clause watches
  abbrev pub watched_by : Clauses N → ℕ → List Lit
  watched_by cs clause = slice_index_or cs.watches clause []

  -- as many watches as clauses, not more clauses than ids, and exact lists
  pub record IsClauseList (cs : Clauses N) : Type 0 where
    pub paired : length cs.watches ≡ length cs.clauses
    pub few : length cs.clauses ≤ 2 ^ 32 - 1
    pub exact : IsExact (watched_by cs) cs.watchers

  -- no id is left for a clause
  abbrev pub is_full : Clauses N → Bool
  is_full cs = are_ids_out (2 ^ 32 - 1) (length cs.clauses)

  -- no id is left for a clause, or none for the literals of a learnt one
  abbrev pub is_learnt_full : Clauses N → Bool
  is_learnt_full cs = is_full cs || are_ids_out (2 ^ 32) (length cs.learnt)

  -- one more clause at the end, with what it watches
  abbrev pub with_clause : Clauses N → Clause N → Option (List Lit) → Clauses N
  with_clause cs clause watched = record cs {
    clauses = cs.clauses ++ clause ∷ [];
    watches = cs.watches ++ two_or_none watched ∷ [];
    watchers = started (length cs.clauses) (two_or_none watched) cs.watchers;
  }

  -- one more learnt clause, with its literals: it watches the first and the last of them
  abbrev pub with_learnt : Clauses N → List Lit → Clauses N
  with_learnt cs literals =
      let more = with_clause cs (Learnt (length cs.learnt)) (watch_ends literals) in
      record more { learnt = cs.learnt ++ literals ∷ [] }

  -- the clause watches the one literal, and not the other
  abbrev pub can_rewatch : Clauses N → ℕ → Lit → Lit → Bool
  can_rewatch cs clause from to = is_literal_in from (watched_by cs clause) &&
      not (is_literal_in to (watched_by cs clause))

  -- the clause watches another literal in the place of one
  abbrev pub with_rewatched : Clauses N → ℕ → Lit → Lit → Clauses N
  with_rewatched cs clause from to = record cs {
    watches = slice_set cs.watches clause (rewatched from to (watched_by cs clause));
    watchers = moved clause from to cs.watchers;
  }

  -- this number of clauses more have no ids
  abbrev pub are_ids_out_for : ℕ → Clauses N → Bool
  are_ids_out_for count cs = nat_lt (2 ^ 32 - 1) (length cs.clauses + count)

  -- one more clause "not x or h", or "not x or not h", by the name
  abbrev pub with_forbidden_one : N → Clauses N → ℕ × ℕ × Bool → Clauses N
  with_forbidden_one name cs bit = with_clause cs (ForbidMultipleInstances bit.0 (helper_literal bit) name)
      (bit_watches bit)

  -- one such clause more for each of these, in order
  abbrev pub with_forbidden : N → Clauses N → List (ℕ × ℕ × Bool) → Clauses N
  with_forbidden name cs bits = fold (with_forbidden_one name) cs bits

  -- there are ids and room for this number of clauses more that watch what these do
  pub record HasRoomFor (count : ℕ) (bits : List (ℕ × ℕ × Bool)) (state : ClauseListState N) : Type 0 where
    pub ids : are_ids_out_for count (contents state) ≡ false
    pub clauses : length state.clauses + count ≤ state.clause_room
    pub records : length state.clauses + count ≤ state.record_room
    pub lists : All (λ bit. HaveRooms state.lists count (two_or_none (bit_watches bit))) bits

  -- there is an id and room for one more clause that watches these
  pub record HasRoom (state : ClauseListState N) (watched : List Lit) : Type 0 where
    pub id : is_full (contents state) ≡ false
    pub clause : length state.clauses < state.clause_room
    pub watch : length state.clauses < state.record_room
    pub lists : HaveRoom state.lists watched

  -- no room is lost
  pub record KeepsRoom (old new : ClauseListState N) : Type 0 where
    pub one : (watched : List Lit) → HasRoom old watched → HasRoom new watched
    pub many : (count : ℕ) (bits : List (ℕ × ℕ × Bool)) → HasRoomFor count bits old → HasRoomFor count bits new
