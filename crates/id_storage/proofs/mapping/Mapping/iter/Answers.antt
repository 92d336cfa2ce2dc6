use Rattle.std.proofs.Common.{◌∙◌, ap}
use Rattle.id_storage.specs.Mapping.{pairs, AreBelow}
use Rattle.id_storage.proofs.MappingLemmas.{pairs_are_values}
use Rattle.id_storage.proofs.mapping.Mapping.iter.Goals as goal

pub returns-clause-values : goal.returns-clause-values
returns-clause-values g c =
    let listed = c.new.ensures ∙ ap (pairs g.TId.DenseIndex.id_at) (c.as_slice.ensures.value ∙ c.self.view_is) in
    let below : AreBelow g.TId.DenseIndex.limit c.args.self.now = rw (← c.self.view_is) c.self.invariant.below in
    rw listed (pairs_are_values g.TId.DenseIndex.limit g.TId.DenseIndex.id_at g.TId.DenseIndex.index_of
    c.args.self.now g.met.TId.DenseIndex.round_trip below)
