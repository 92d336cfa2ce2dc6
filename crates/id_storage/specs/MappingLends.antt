-- What a map ends as, where a `&mut` to one of its values was returned.
use Rattle.std.specs.Prelude.{ℕ, List, Option, Result}
use Rattle.std.specs.Borrow.{LendsIf, LendsIfOk, Fml, RattleType, MutBor}
use Rattle.std.specs.declared.alloc.Allocator.{Ghosts as AllocatorGhosts}
use Rattle.typed_ids.specs.declared.dense_index.DenseIndex.{Ghosts}
use Rattle.typed_ids.specs.declared.error.StoreError.{StoreError}
use Rattle.id_storage.specs.Mapping.{with_value, with_slots, slots_for}
use Rattle.id_storage.specs.contracts.mapping.Mapping.{the_row}

module _ (K V A : RattleType) (ids : Ghosts K.Denot) (alloc : AllocatorGhosts A.Denot)
    (m : MutBor (List (Option V.Denot))) (index : ℕ) where
  -- once the borrow r ends, the index has the value written last through r; at `None` the map stays as it is
  abbrev pub lends_get : Option (MutBor V.Denot) → Fml
  lends_get r = LendsIf (the_row K V A ids alloc) V m r (with_value m.now index) m.now

  -- the same, where slots up to the index's chunk are made first; at `Err` the map stays as it is
  abbrev pub lends_inserted : Result (MutBor V.Denot) StoreError → Fml
  lends_inserted r =
      LendsIfOk (the_row K V A ids alloc) V m r (with_value (with_slots m.now (slots_for index)) index) m.now
