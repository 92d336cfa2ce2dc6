-- What a map of requirements ends as, where a `&mut` to one of its values was returned.
use Rattle.std.specs.Prelude.{◌≡◌, ℕ, List, Option, Result}
use Rattle.std.specs.Borrow.{Lends, LendsSo, LendsIfOk, Fml, RattleType, MutBor}
use Rattle.std.specs.Map.{set_value}
use Rattle.std.specs.declared.alloc.Allocator.{Ghosts}
use Rattle.typed_ids.specs.declared.error.StoreError.{StoreError}
use Rattle.providers.specs.declared.requirement.Requirement.{Requirement}
use Rattle.providers.specs.Requirement.{same_requirement}
use Rattle.providers.specs.RequirementMap.{with_entry, with_value_at}
use Rattle.providers.specs.contracts.requirement_map.RequirementMap.{the_row}

module _ (V A : RattleType) (alloc : Ghosts A.Denot) (m : MutBor (List (Requirement × V.Denot))) where
  -- once the borrow r ends, the entry in this place has the value written last through r
  abbrev pub lends_at : ℕ → MutBor V.Denot → Fml
  lends_at place r = Lends (the_row V A alloc) V m r (with_value_at m.now place)

  module _ (requirement : Requirement) where
    -- once the borrow r ends, the requirement's entry has the value written last through r; at `None` the map stays
    abbrev pub lends_value : Option (MutBor V.Denot) → Fml
    lends_value r =
        LendsSo (the_row V A alloc) V m r (λ n w. n ≡ set_value (same_requirement requirement) m.now w) (λ n. n ≡ m.now)

    -- the same, where a requirement without an entry gets one at the end; at `Err` the map stays
    abbrev pub lends_inserted : Result (MutBor V.Denot) StoreError → Fml
    lends_inserted r = LendsIfOk (the_row V A alloc) V m r (with_entry m.now requirement) m.now
