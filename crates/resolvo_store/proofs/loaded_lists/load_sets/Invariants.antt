use Rattle.std.proofs.Common.{◌≡◌, ◌<◌, ◌^◌, take, length}
use Rattle.std.specs.Prelude.{vec_len, vec_capacity}
use Rattle.resolvo_store.proofs.Words.{CameThrough, flat_map, lists_of_loaded, sorted_of_set}
use Rattle.resolvo_store.specs.Lists.{items_of}
use Rattle.resolvo_store.specs.LoadedLists.{AreSetsLoaded}
use Rattle.resolvo_store.specs.Store.{Provider, gathered}
use Rattle.resolvo_store.proofs.loaded_lists.load_sets.Given as goal

-- the provider's functions
abbrev pub provided : (g : goal.Over) → g.row.D.Denot → Provider g.row.D-NameId.Denot g.row.D-SolvableId.Denot
provided g = gathered g.D.NameId.PartialEq.eq g.D.SolvableId.PartialEq.eq g.D.NameId.Slots.IdMap.is_too_large
    g.D.SolvableId.Slots.IdMap.is_too_large g.D.SolvableId.Set.IdSet.is_too_large g.D.NameId.SolverId.are_many
    g.D.Interner.universe g.D.DependencyProvider.answers

abbrev pub invariant-loop-set : goal.invariant-loop-set
invariant-loop-set g l =
    let p = provided g l.initial.cache.provider in
    let done = take l.set-index l.sets in
    record {
      loaded : AreSetsLoaded p g.D.SolvableId.Set.IdSet.has l.initial.cache l.cache l.initial.variables l.variables
          done (items_of l.lists);
      through : CameThrough p l.cache l.variables (lists_of_loaded l.loaded);
      counted : l.rows ≡ length (flat_map (sorted_of_set p) done);
      few : l.rows < 2 ^ 40;
      count : vec_len l.lists ≡ l.set-index;
      room : vec_capacity l.lists ≡ length l.sets;
    }
