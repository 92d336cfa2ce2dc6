use Rattle.std.proofs.Common.{string_bytes, map, ap, refl}
use Rattle.std.proofs.lemmas.List.{length-map}
use Rattle.std.proofs.lemmas.Result.{IfOk-weaker, on_ok_weaker}
use Rattle.std.specs.Prelude.{bytes_eq}
use Rattle.std.specs.String.{string_eq}
use Rattle.package_pool.proofs.InternedLemmas.{has_by_view, place_by_view, interned_by_view}
use Rattle.package_pool.proofs.pool.Pool.intern_string.Goals as goal

pub returns-clause-id : goal.returns-clause-id
returns-clause-id g c =
    rw (
      ← c.self.view_is,
      ← place_by_view string_bytes string_eq bytes_eq
          (λ x y. refl) c.self.inside.strings.keys c.args.text,
    )
    (IfOk-weaker c.intern.result _ _ (λ id h. ap (λ i. i.0) h) c.intern.ensures.id)

pub returns-clause-ok : goal.returns-clause-ok
returns-clause-ok g c =
    rw (
      ← c.self.view_is,
      ← interned_by_view string_bytes string_eq bytes_eq
          (λ x y. refl) c.self.inside.strings.keys c.args.text,
    )
    (on_ok_weaker c.intern.result (λ h. ap (λ keys. record {
      strings = map string_bytes keys;
      names = c.self.inside.names.keys;
      solvables = c.self.inside.solvables;
      version_sets = c.self.inside.version_sets.keys;
      unions = c.self.inside.unions;
      conditions = c.self.inside.conditions.keys;
    }) h) c.intern.ensures.ok)

pub returns-clause-known : goal.returns-clause-known
returns-clause-known g c =
    rw (
      ← c.self.view_is,
      ← has_by_view string_bytes string_eq bytes_eq
          (λ x y. refl) c.self.inside.strings.keys c.args.text,
    )
    c.intern.ensures.known

pub returns-clause-ids_out : goal.returns-clause-ids_out
returns-clause-ids_out g c =
    rw (
      ← c.self.view_is,
      ← has_by_view string_bytes string_eq bytes_eq
          (λ x y. refl) c.self.inside.strings.keys c.args.text,
      length-map,
    )
    c.intern.ensures.ids_out
