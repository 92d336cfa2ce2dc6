use Rattle.std.proofs.Common.{length, subst, sym, ap, ◌<◌}
use Rattle.std.specs.Prelude.{option_map}
use Rattle.package_pool.proofs.PoolLemmas.{read_at}
use Rattle.package_pool.proofs.pool.Pool.resolve_version_set.Goals as goal

pub returns : goal.returns
returns g c =
    let keys = c.self.inside.version_sets.keys in
    let within : c.args.set.0 < length keys =
    subst (λ p. c.args.set.0 < length p.version_sets) (sym c.self.view_is) c.requires in
    rw (← c.self.view_is)
    (ap (option_map (λ s. s.1)) (read_at keys _ _ _ _ within c.as_slice.ensures.keys c.to_index.ensures.value
    c.index-as_slice-to_index.is))
