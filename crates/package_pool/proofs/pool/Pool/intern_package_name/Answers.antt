use Rattle.std.proofs.Common.{string_bytes, map, ap}
use Rattle.std.proofs.lemmas.Result.{on_ok_weaker}
use Rattle.package_pool.proofs.pool.Pool.intern_package_name.Goals as goal

pub returns-clause-id : goal.returns-clause-id
returns-clause-id g c = rw (← c.self.view_is) c.intern.ensures.id

pub returns-clause-ok : goal.returns-clause-ok
returns-clause-ok g c =
    rw (← c.self.view_is)
    (on_ok_weaker c.intern.result (λ h. ap (λ keys. record {
      strings = map string_bytes c.self.inside.strings.keys;
      names = keys;
      solvables = c.self.inside.solvables;
      version_sets = c.self.inside.version_sets.keys;
      unions = c.self.inside.unions;
      conditions = c.self.inside.conditions.keys;
    }) h) c.intern.ensures.ok)

pub returns-clause-known : goal.returns-clause-known
returns-clause-known g c = rw (← c.self.view_is) c.intern.ensures.known

pub returns-clause-ids_out : goal.returns-clause-ids_out
returns-clause-ids_out g c = rw (← c.self.view_is) c.intern.ensures.ids_out
