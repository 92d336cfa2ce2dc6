-- What is told of decisions. N are the names, S the solvables.
use Rattle.std.specs.Prelude.{◌≡◌, ℕ, false, Option, option_map, All}
use Rattle.resolvo_queue.specs.Scan.{scan}
use Rattle.resolvo_store.specs.Outcome.{falsified_clause, is_eligible_clause}
use Rattle.resolvo_store.specs.Store.{Store}

module _ {N S : Type 0} (st : Store N S) where
  -- the id of the first falsified clause of the scan
  abbrev pub falsified_id : Option ℕ
  falsified_id = option_map (λ c. c.clause_id) (falsified_clause st)

  -- no clause of the scan is eligible
  abbrev pub NoneEligible : Type 0
  NoneEligible = All (λ c. is_eligible_clause st c ≡ false) (scan st.requires)
