use Rattle.std.proofs.Common.{ℕ, ◌<◌, sym, subst, length, rules}
use Rattle.package_pool.specs.Pool.{IsSound, same_set}
use Rattle.package_pool.specs.PoolView.{lists_in}
use Rattle.package_pool.proofs.PoolLemmas.{grown_and_placed, own_with_sets}
use Rattle.package_pool.proofs.pool.Pool.intern_version_set.Goals as goal

sound : (g : _) (c : goal.After-map_err g) →
    IsSound (record (lists_in c.self.inside) { version_sets = c.intern.new.table.keys })
sound g c =
    let eq = same_set g.VS.PartialEq.eq in
    let p = lists_in c.self.inside in
    let entry : ℕ × g.row.VS.Denot = (c.args.name, c.args.set) in
    let new = c.intern.new.table.keys in
    let known : c.args.name < length p.names =
    subst (λ q. c.args.name < length q.names) (sym c.self.view_is) c.requires in
    let grown = grown_and_placed eq p.version_sets entry (λ _ set. set.0 < length p.names) new c.intern.result
    c.intern.ensures.ok c.intern.ensures.err
    c.self.invariant.own.version_sets known in
    record { fits = search rules; own = own_with_sets p c.self.invariant.own new grown.0 grown.1 }

pub invariant_of-self : goal.invariant_of-self
invariant_of-self g c = sound g c

pub returns-clause-id : goal.returns-clause-id
returns-clause-id g c = rw (← c.self.view_is) (search rules)

pub returns-clause-ok : goal.returns-clause-ok
returns-clause-ok g c = rw (← c.self.view_is) (search rules)

pub returns-clause-ids_out : goal.returns-clause-ids_out
returns-clause-ids_out g c = rw (← c.self.view_is) (search rules)

pub returns-clause-sound : goal.returns-clause-sound
returns-clause-sound g c = sound g c
