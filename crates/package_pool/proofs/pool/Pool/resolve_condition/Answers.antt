use Rattle.std.proofs.Common.{length, subst, sym, ◌<◌}
use Rattle.package_pool.proofs.PoolLemmas.{read_at}
use Rattle.package_pool.proofs.pool.Pool.resolve_condition.Goals as goal

pub returns-clause-value : goal.returns-clause-value
returns-clause-value g c =
    let keys = c.self.inside.conditions.keys in
    let within : c.args.condition < length keys =
    subst (λ p. c.args.condition < length p.conditions) (sym c.self.view_is) c.requires in
    rw (← c.self.view_is)
    (read_at keys _ _ _ _ within c.as_slice.ensures.keys c.to_index.ensures.value c.index-as_slice-to_index.is)

pub returns-clause-known : goal.returns-clause-known
returns-clause-known g c =
    let keys = c.self.inside.conditions.keys in
    let within : c.args.condition < length keys =
    subst (λ p. c.args.condition < length p.conditions) (sym c.self.view_is) c.requires in
    rw (← c.self.view_is)
    (c.self.invariant.own.conditions c.args.condition c.index-as_slice-to_index.result
    (read_at keys _ _ _ _ within c.as_slice.ensures.keys c.to_index.ensures.value c.index-as_slice-to_index.is))
