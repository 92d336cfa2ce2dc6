-- What becomes of a requires clause that is added and registered. N are the names, S the solvables, A the allocators.
use Rattle.std.specs.Prelude.{◌≡◌, ℕ, List, map}
use Rattle.std.specs.declared.vec.Vec.{Vec}
use Rattle.std.specs.Prelude.{Bool}
use Rattle.providers.specs.declared.requirement.Requirement.{Requirement}
use Rattle.providers.specs.Provider.{Universe, sets_of}
use Rattle.decisions.specs.Literals.{Lit}
use Rattle.decisions.specs.Trail.{Trail, val}
use Rattle.clauses.specs.Clauses.{StoredLiterals, first_watches, is_conflict, condition_literals}
use Rattle.clauses.specs.declared.disjunction.Disjunction.{Disjunction}
use Rattle.falsified_clauses.specs.declared.demand.Demand.{Demand}
use Rattle.falsified_clauses.specs.Clauses.{Lists}
use Rattle.watch_map.specs.ClauseList.{literals_watched}
use Rattle.resolvo_queue.specs.Queue.{Queue, IsRegistered, StandsOn}
use Rattle.resolvo_queue.specs.References.{references}
use Rattle.resolvo_store.specs.declared.store.registering.Required.{Required}

-- what the clause watches at first, and whether it is a conflict, for whoever keeps these literals of its condition and
-- these lists of its requirement
abbrev pub StartsRight : {N A : Type 0} → Demand → List (Vec ℕ A) → List Lit → Trail → Required N → Type 0
StartsRight demand lists literals trail required =
    (k : StoredLiterals) → condition_literals k demand.condition ≡ literals →
    k.lists demand.requirement ≡ map (λ l. l.items) lists →
    (literals_watched required.watches ≡ first_watches k (val trail.entries) required.clause) ×
    (required.is_conflict ≡ is_conflict k (val trail.entries) required.clause)

module _ {N S : Type 0} (universe : Universe N S) where
  -- the packages of a requirement's version sets, in order
  abbrev pub packages_of : Requirement → List N
  packages_of r = map universe.set_name (sets_of universe r)

  -- the queue has registered the clause under the id
  abbrev pub HasRequired : {H : Type 0} → (H → N → Bool) → Required N → ℕ → Queue N H → Queue N H → Type 0
  HasRequired has required id old new = IsRegistered has
      (record {
        parent = required.parent;
        requirement = required.requirement;
        condition = required.condition;
        clause_id = id;
      })
      (packages_of required.requirement) old new

  -- what the old queue stood on, the new one does
  abbrev pub StillStandsOn : {A H : Type 0} → Lists A → List (Disjunction A) → Queue N H → Queue N H → Type 0
  StillStandsOn lists disjunctions old new =
      StandsOn (references universe lists disjunctions) old → StandsOn (references universe lists disjunctions) new
