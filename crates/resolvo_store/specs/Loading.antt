-- What a load of a requirement does, and what is told of one that was loaded. N are the names, S the solvables.
use Rattle.std.specs.Prelude.{◌≡◌, ℕ, Bool, true, List, [], ◌∷◌, ◌++◌, map, None, Some, IsTrue, MatchOption}
use Rattle.std.specs.declared.vec.Vec.{Vec}
use Rattle.typed_ids.specs.declared.error.StoreError.{StoreError}
use Rattle.providers.specs.declared.requirement.Requirement.{Requirement}
use Rattle.providers.specs.Provider.{knows_requirement}
use Rattle.resolvo_store.specs.Command.{Load, LoadedAs, Refused}
use Rattle.resolvo_store.specs.Lists.{items_of}
use Rattle.resolvo_store.specs.Outcome.{origins_loaded, variables_loaded}
use Rattle.resolvo_store.specs.Step.{Step, IsAnswered}
use Rattle.resolvo_store.specs.Store.{Store, StoreState, lists_of}

module _ {N S : Type 0} (st : Store N S) (r : Requirement) where
  -- these are the lists that are kept for it
  abbrev pub AreListsOf : {A : Type 0} → List (Vec ℕ A) → Type 0
  AreListsOf lists = lists_of st r ≡ Some (map (λ l. l.items) lists)

  -- a Load of it replies these, and changes nothing
  abbrev pub LoadsAgain : {A : Type 0} → List (Vec ℕ A) → Type 0
  LoadsAgain lists = Step st (Load r) (LoadedAs (map (λ l. l.items) lists)) st

  -- it isn't loaded, if the provider knows it
  abbrev pub IsUnloaded : Type 0
  IsUnloaded = knows_requirement st.provider.universe r ≡ true → lists_of st r ≡ None

  -- lists are kept for it in the new store, and a Load of it replies these and leads there
  abbrev pub IsLoadedAs : Store N S → Type 0
  IsLoadedAs new = MatchOption (lists_of new r) ⊥ (λ lists. Step st (Load r) (LoadedAs lists) new)

  -- a Load of it, which nothing refuses, leads to the new store
  abbrev pub LoadsNew : Store N S → Type 0
  LoadsNew new = IsAnswered st (Load r) (LoadedAs (variables_loaded st r)) new

  -- it is refused, and leads there
  abbrev pub FailsNew : Store N S → StoreError → Type 0
  FailsNew new e = IsAnswered st (Load r) (Refused e) new

  -- these are the lists that it is loaded with, where somebody asked for a copy
  abbrev pub AreCopied : {A : Type 0} → Bool → Vec (Vec ℕ A) A → Type 0
  AreCopied copied lists = IsTrue copied → items_of lists ≡ variables_loaded st r

  -- what is kept, with the variables of its candidates and their lists
  abbrev pub with_loaded : {D C : Type 0} → StoreState D N S C → StoreState D N S C
  with_loaded state = record state {
    origins = origins_loaded st r;
    loaded = state.loaded ++ (r, variables_loaded st r) ∷ [];
  }
