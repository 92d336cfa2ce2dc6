use Rattle.resolvo_store.specs.Store.{Provider, gathered}
use Rattle.resolvo_store.proofs.ListLemmas.{items_of}
use Rattle.resolvo_store.proofs.LoadedSets.{in_front}
use Rattle.resolvo_store.proofs.loaded_lists.load_lists.Goals.{in-Single, in-Union}
use Rattle.resolvo_store.proofs.loaded_lists.load_lists.Given.{Over}
use Rattle.resolvo_store.proofs.loaded_lists.load_lists.Goals as goal

-- the provider's functions
abbrev provided : (g : Over) → g.row.D.Denot → Provider g.row.D-NameId.Denot g.row.D-SolvableId.Denot
provided g = gathered g.D.NameId.PartialEq.eq g.D.SolvableId.PartialEq.eq g.D.NameId.Slots.IdMap.is_too_large
    g.D.SolvableId.Slots.IdMap.is_too_large g.D.SolvableId.Set.IdSet.is_too_large g.D.NameId.SolverId.are_many
    g.D.Interner.universe g.D.DependencyProvider.answers

pub returns-clause-front : goal.returns-clause-front
returns-clause-front g c =
    let p = provided g c.args.cache.now.provider in
    let has = g.D.SolvableId.Set.IdSet.has in
    elim c.match-requirement.branch [
      | in-Single w ↦ rw w.variables-is (in_front p has _ _ _ _ _ w.load_set-lists.result items_of
          w.load_set-lists.ensures.loaded w.load_set-lists.ensures.refused)
      | in-Union w ↦ rw w.variables-is (in_front p has _ _ _ _ _ w.load_union-lists.result items_of
          w.load_union-lists.ensures.loaded w.load_union-lists.ensures.refused)
    ]
