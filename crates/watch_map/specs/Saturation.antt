-- What a saturation changes: entries of the trail, and what clauses watch.
use Rattle.std.specs.Prelude.{◌≡◌, ℕ, true, List, [], ◌++◌, length, slice_get, option_map, unwrap_or}
use Rattle.decisions.specs.Literals.{Lit}
use Rattle.decisions.specs.Trail.{Entry, Trail}
use Rattle.clauses.specs.declared.clause.Clause.{Clause}
use Rattle.clauses.specs.Clauses.{StoredLiterals, literals_of}
use Rattle.watch_map.specs.Watching.{is_literal_in}
use Rattle.watch_map.specs.ClauseList.{Clauses}
use Rattle.watch_map.specs.Implication.{AreImplied}

-- ---- the literals of clauses

-- the literals of a clause by its id, none of an unknown one
abbrev pub literals_from : {N : Type 0} → StoredLiterals → List (Clause N) → ℕ → List Lit
literals_from stored clauses c = unwrap_or (option_map (literals_of stored) (slice_get clauses c)) []

-- the same by the list of all clauses, which has the literals of the learnt ones; the rest is kept elsewhere
abbrev pub literals_in_list : {N : Type 0} → StoredLiterals → Clauses N → ℕ → List Lit
literals_in_list stored cs = literals_from (record stored { learnt = cs.learnt }) cs.clauses

-- the literals that a clause watches are its own
abbrev pub AreOwn : List Lit → List Lit → Type 0
AreOwn literals watched = (l : Lit) → is_literal_in l watched ≡ true → is_literal_in l literals ≡ true

-- each clause watches its own literals
abbrev pub WatchOwn : (ℕ → List Lit) → (ℕ → List Lit) → Type 0
WatchOwn literals watched = (c : ℕ) → AreOwn (literals c) (watched c)

-- ---- what changes

-- entries were added at the trail's end, each at the level and implied by its clause; the place and the floor stay
pub record HasImplied (literals : ℕ → List Lit) (level : ℕ) (old new : Trail) : Type 0 where
  pub added : List Entry
  pub implied : AreImplied literals level old.entries added
  pub entries : new.entries ≡ old.entries ++ added
  pub place : new.place ≡ old.place
  pub floor : new.floor ≡ old.floor

-- each clause watches its own literals, and as many as before: two or none. That the two differ is the lists'
-- exactness.
pub record IsRearranged (literals watched watched' : ℕ → List Lit) : Type 0 where
  pub own : WatchOwn literals watched'
  pub as_many : (c : ℕ) → length (watched' c) ≡ length (watched c)
