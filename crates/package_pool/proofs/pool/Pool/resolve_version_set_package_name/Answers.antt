use Rattle.std.proofs.Common.{length, subst, sym, ap, ◌<◌}
use Rattle.std.specs.Prelude.{option_map}
use Rattle.package_pool.proofs.PoolLemmas.{read_at}
use Rattle.package_pool.proofs.pool.Pool.resolve_version_set_package_name.Goals as goal

pub returns-clause-value : goal.returns-clause-value
returns-clause-value g c =
    let within : c.args.set.0 < length c.self.inside.version_sets.keys =
    subst (λ p. c.args.set.0 < length p.version_sets) (sym c.self.view_is) c.requires in
    rw (← c.self.view_is)
    (ap (option_map (λ s. s.0))
    (read_at c.self.inside.version_sets.keys _ _ _ _ within c.as_slice.ensures.keys c.to_index.ensures.value
    c.index-as_slice-to_index.is))

pub returns-clause-known : goal.returns-clause-known
returns-clause-known g c =
    let within : c.args.set.0 < length c.self.inside.version_sets.keys =
    subst (λ p. c.args.set.0 < length p.version_sets) (sym c.self.view_is) c.requires in
    rw (← c.self.view_is)
    (c.self.invariant.own.version_sets c.args.set.0 c.index-as_slice-to_index.result
    (read_at c.self.inside.version_sets.keys _ _ _ _ within c.as_slice.ensures.keys c.to_index.ensures.value
    c.index-as_slice-to_index.is))
