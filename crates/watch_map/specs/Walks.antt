-- What the walks over watch lists promise, over the map and the records of all clauses.
use Rattle.std.specs.Prelude.{◌≡◌, ℕ, Bool, not, ◌&&◌, List, [], ◌∷◌, ◌++◌, length, Option, fold, max}
use Rattle.typed_ids.specs.TotalMaps.{IsUpdate}
use Rattle.decisions.specs.Literals.{Lit}
use Rattle.watch_map.specs.declared.watched_literals.WatchedLiterals.{WatchedLiterals}
use Rattle.watch_map.specs.Watching.{is_literal_in, started, moved}
use Rattle.watch_map.specs.WatchLists.{WatchLists, Watches, literals_in, watched_by, watchers, AreWatched}
use Rattle.watch_map.specs.ClauseList.{rewatched}

-- the map to which a new clause belongs, whose record comes behind the others, watching or not
abbrev pub StartsAtEnd : WatchLists → Option WatchedLiterals → ℕ → WatchLists → Type 0
StartsAtEnd old watched clause new = (watches : Watches) → AreWatched old watches → clause ≡ length watches
    → AreWatched new (watches ++ watched ∷ [])
    × ((l : Lit) → watchers new (watches ++ watched ∷ []) l ≡
    started clause (literals_in watched) (watchers old watches) l)

-- the clause watches the one literal, and not the other
abbrev pub may_rewatch : Watches → ℕ → Lit → Lit → Bool
may_rewatch watches clause from to =
    is_literal_in from (watched_by watches clause) && not (is_literal_in to (watched_by watches clause))

-- the clause watches the other literal in the place of the one
pub record IsRewatched (map : WatchLists) (watches : Watches) (clause : ℕ) (from to : Lit) (map' : WatchLists)
    (watches' : Watches) : Type 0 where
  pub watched : AreWatched map' watches'
  pub lists : (l : Lit) → watchers map' watches' l ≡ moved clause from to (watchers map watches) l
  pub as_many : length watches' ≡ length watches
  pub literals : IsUpdate (watched_by watches) clause (rewatched from to (watched_by watches clause))
      (watched_by watches')

-- the larger one of a variable, and the variable and the helper of a clause
abbrev pub larger_variable : ℕ → ℕ × ℕ × Bool → ℕ
larger_variable largest bit = max largest (max bit.0 bit.1)

-- the largest of the variables and helpers of these clauses; the root's where there is none
abbrev pub largest_variable : List (ℕ × ℕ × Bool) → ℕ
largest_variable bits = fold larger_variable 0 bits
