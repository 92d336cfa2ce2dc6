use Rattle.resolvo_store.proofs.store.registering.queue_named.Goals as goal

pub returns-clause-stands : goal.returns-clause-stands
returns-clause-stands g c =
    c.register_clause.ensures.stands (g.D.Interner.universe c.args.context.now.provider.now)
    c.args.context.now.loaded.now c.requires.loaded
