use Rattle.std.proofs.Common.{◌≡◌, ◌++◌, map, drop}
use Rattle.resolvo_store.proofs.store.registering.names_of_sets.Given as goal

abbrev pub invariant-loop-set : goal.invariant-loop-set
invariant-loop-set g l =
    let name = (g.D.Interner.universe l.provider).set_name in
    l.names.items ++ map name (drop l.set-index l.sets) ≡ map name l.sets
