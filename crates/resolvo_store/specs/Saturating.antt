-- What Saturate replies, and the store that it leaves. N are the names, S the solvables.
use Rattle.std.specs.Prelude.{◌≡◌, ℕ, List, ◌++◌, length, Option, Some, None, Result, Ok, Err}
use Rattle.typed_ids.specs.declared.error.StoreError.{StoreError}
use Rattle.typed_ids.specs.declared.error.StoreError.TheVariants.{OutOfMemory}
use Rattle.decisions.specs.Literals.{Lit}
use Rattle.decisions.specs.Trail.{Entry}
use Rattle.watch_map.specs.Watching.{IsExact}
use Rattle.watch_map.specs.Implication.{AreImplied, AreSettled, IsConflict}
use Rattle.watch_map.specs.Saturation.{IsRearranged}
use Rattle.resolvo_store.specs.Command.{Command, Saturate, Reply, Done, Conflict, Refused}
use Rattle.resolvo_store.specs.Store.{Store, values, clause_literals, watched_by}

module _ {N S : Type 0} where
  -- entries were added at the trail's end, each at the level, and implied by its clause under those before it; and
  -- watches may be others of their clauses' literals: each clause has as many as before, and the lists are exact. All
  -- else is as it was
  pub record IsSaturated (level : ℕ) (old new : Store N S) : Type 0 where
    pub added : List Entry
    pub implied : AreImplied (clause_literals old) level old.trail added
    pub watches : List (List Lit)
    pub watchers : Lit → List ℕ
    pub rest : new ≡ record old { trail = old.trail ++ added; watches = watches; watchers = watchers }
    pub watched : length new.watches ≡ length old.watches
    pub rearranged : IsRearranged (clause_literals old) (watched_by old) (watched_by new)
    pub exact : IsExact (watched_by new) new.watchers

  -- the trail has these entries, and then more, each at the level and implied by its clause under those before it
  pub record HasImpliedMore (level : ℕ) (old new : Store N S) : Type 0 where
    pub added : List Entry
    pub longer : new.trail ≡ old.trail ++ added
    pub implied : AreImplied (clause_literals old) level old.trail added

  -- no clause is false, and none is unit
  abbrev pub HasSettled : Store N S → Type 0
  HasSettled st = AreSettled (clause_literals st) (length st.clauses) (values st)

  -- the clause is there, and false
  abbrev pub HasConflict : Store N S → ℕ → Type 0
  HasConflict st c = IsConflict (clause_literals st) (length st.clauses) (values st) c

  -- what a refused command leaves: the store as it was; of a Saturate, what it added before
  abbrev pub RefusalLeaves : Command N S → Store N S → Store N S → Type 0
  RefusalLeaves (Saturate level) old new = IsSaturated level old new
  RefusalLeaves c old new = new ≡ old

  -- by the reply: all clauses are settled, or one is false, or memory was refused
  abbrev pub Saturates : ℕ → Store N S → Reply → Store N S → Type 0
  Saturates level old Done new = IsSaturated level old new × HasSettled new
  Saturates level old (Conflict c) new = IsSaturated level old new × HasConflict new c
  Saturates level old (Refused OutOfMemory) new = IsSaturated level old new
  Saturates level old _ new = ⊥
