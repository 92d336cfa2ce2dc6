use Rattle.package_pool.proofs.pool.Pool.resolve_version_set_union.Goals as goal

pub returns-clause-known : goal.returns-clause-known
returns-clause-known g c =
    rw (← c.self.view_is)
    (c.self.invariant.own.unions c.args.union.0 c.resolve.result.now c.resolve.ensures)
