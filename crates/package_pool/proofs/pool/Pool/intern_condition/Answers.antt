use Rattle.std.proofs.Common.{string_bytes, true≢false, map, ap, sym, subst, length, rules, ◌∙◌}
use Rattle.package_pool.proofs.ConditionLemmas.{has_condition, place_of_condition, interned_condition}
use Rattle.providers.specs.contracts.condition.ConditionPartialEq.TheImpl.{eq-value}
use Rattle.package_pool.specs.Pool.{IsSound, IsMadeBelow}
use Rattle.package_pool.specs.PoolView.{lists_in}
use Rattle.package_pool.proofs.PoolLemmas.{placed_interned, own_with_conditions}
use Rattle.package_pool.proofs.pool.Pool.intern_condition.Goals as goal

sound : (g : _) (c : goal.In_ok-intern g) →
    IsSound (record (lists_in c.self.inside) { conditions = c.intern.new.table.keys })
sound g c =
    let keys = c.self.inside.conditions.keys in
    let new = c.intern.new.table.keys in
    let made : IsMadeBelow (lists_in c.self.inside) (length keys) c.args.condition =
    subst (λ p. IsMadeBelow p (length p.conditions) c.args.condition) (sym c.self.view_is) c.requires in
    record {
      fits = search rules;
      own = own_with_conditions (lists_in c.self.inside) c.self.invariant.own new
          (placed_interned eq-value.it keys c.args.condition
          (IsMadeBelow (lists_in c.self.inside)) new c.in_ok-intern.ensures.ok
          c.self.invariant.own.conditions made);
    }

pub invariant_of-self-2 : goal.invariant_of-self-2
invariant_of-self-2 g c = sound g c

pub returns-in_err-intern-clause-known : goal.returns-in_err-intern-clause-known
returns-in_err-intern-clause-known g c =
    rw (← c.self.view_is)
    (λ h. absurd (true≢false (sym (c.in_err-intern.ensures.known
    (has_condition c.self.inside.conditions.keys c.args.condition ∙ h)))))

pub returns-clause-id : goal.returns-clause-id
returns-clause-id g c =
    rw (← c.self.view_is)
    (c.in_ok-intern.ensures.id ∙ place_of_condition c.self.inside.conditions.keys c.args.condition)

pub returns-clause-ok : goal.returns-clause-ok
returns-clause-ok g c =
    rw (← c.self.view_is)
    (ap (λ keys. record {
      strings = map string_bytes c.self.inside.strings.keys;
      names = c.self.inside.names.keys;
      solvables = c.self.inside.solvables;
      version_sets = c.self.inside.version_sets.keys;
      unions = c.self.inside.unions;
      conditions = keys;
    }) (c.in_ok-intern.ensures.ok ∙ interned_condition c.self.inside.conditions.keys c.args.condition))

pub returns-clause-ids_out : goal.returns-clause-ids_out
returns-clause-ids_out g c =
    rw (← c.self.view_is)
    (λ out h. absurd (c.in_ok-intern.ensures.ids_out out
    (has_condition c.self.inside.conditions.keys c.args.condition ∙ h)))

pub returns-clause-sound : goal.returns-clause-sound
returns-clause-sound g c = sound g c
