-- How a search ends, and why there is no decision to ask for.
use Rattle.std.specs.Prelude.{◌≡◌, None, Some, option_map, ⊤}
use Rattle.resolvo_ids.specs.Types.StoreError.TheVariants.{OutOfMemory}
use Rattle.resolvo_store.specs.Store.{Store}
use Rattle.resolvo_store.specs.Solved.{IsSolved}
use Rattle.resolvo_store.specs.Outcome.{falsified_clause}
use Rattle.test_store_calls.specs.declared.searching.DecideFault.{DecideFault}
use Rattle.test_store_calls.specs.declared.searching.DecideFault.TheVariants as Fault
use Rattle.test_store_calls.specs.declared.searching.SearchEnd.{SearchEnd}
use Rattle.test_store_calls.specs.declared.searching.SearchEnd.TheVariants.{Solved, Falsified, LevelsUsed}

-- what is true of the store at each end
abbrev pub IsEnd : {N S : Type 0} → Store N S → SearchEnd → Type 0
IsEnd st Solved = IsSolved st
IsEnd st (Falsified clause) = option_map (λ c. c.clause_id) (falsified_clause st) ≡ Some clause
IsEnd st LevelsUsed = ⊤

-- what is true of the store where it is asked in vain
abbrev pub IsFault : {N S : Type 0} → Store N S → DecideFault → Type 0
IsFault st (Fault.Falsified clause) = option_map (λ c. c.clause_id) (falsified_clause st) ≡ Some clause
IsFault st (Fault.Refused error) = (falsified_clause st ≡ None) × (error ≡ OutOfMemory)
