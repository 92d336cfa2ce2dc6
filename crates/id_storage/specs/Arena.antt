-- What an arena shows, and what it ends as where a `&mut` to one of its values is handed out.
use Rattle.std.specs.Prelude.{ℕ, List, map, slice_set}
use Rattle.std.specs.List.{enumerate_from}
use Rattle.std.specs.Borrow.{Lends, Fml, RattleType, MutBor}
use Rattle.std.specs.declared.alloc.Allocator.{Ghosts}
use Rattle.typed_ids.specs.declared.dense_index.DenseIndex.{Ghosts as Indexed}
use Rattle.id_storage.specs.contracts.arena.Arena.{the_row}

-- each value with its id, where the first value is at this place
abbrev pub pairs_from : {Id V : Type 0} → (ℕ → Id) → ℕ → List V → List (Id × V)
pairs_from id_at first values = map (λ placed. (id_at placed.0, placed.1)) (enumerate_from first values)

-- once the borrow ends, the value at the place is the last one written through r, and no other has changed
abbrev pub lends_value : (TId V A : RattleType) → Indexed TId.Denot → Ghosts A.Denot
    → MutBor (List V.Denot) → ℕ → MutBor V.Denot → Fml
lends_value TId V A ids alloc arena place r = Lends (the_row TId V A ids alloc) V arena r (slice_set arena.now place)
