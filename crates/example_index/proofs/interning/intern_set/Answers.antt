use Rattle.std.proofs.Common.{arith, ◌≡◌, ◌∙◌, ap, map, sym, subst, Some}
use Rattle.std.proofs.lemmas.List.{length-map}
use Rattle.example_index.proofs.Words.{first_place, interned, same_set, slice_get, string_bytes, VersionRange}
use Rattle.example_index.proofs.Later.{named_here}
use Rattle.example_index.proofs.Interned.{set_at, VersionRangeEq}
use Rattle.example_index.proofs.interning.intern_set.Goals as goal

pub returns-in-Ok-clause-is : goal.returns-in-Ok-clause-is
returns-in-Ok-clause-is c =
    let name = c.in_ok-name.name in
    let range : VersionRange = record { low = c.args.set.now.low; high = c.args.set.now.high } in
    let sets = c.intern_name.new.pool.version_sets in
    record {
      name = name;
      named = subst (λ pool. first_place c.args.set.now.name.now (map string_bytes pool.names) ≡ Some name)
          (sym c.in-Ok.ensures.ok)
          c.in_ok-name.ensures.is;
      is = ap (λ pool. slice_get pool.version_sets c.in-Ok.id.0) c.in-Ok.ensures.ok
          ∙ ap (slice_get (interned (same_set VersionRangeEq) sets (name, range))) c.in-Ok.ensures.id
          ∙ set_at sets name range;
    }

pub intern_version_set-requires : goal.intern_version_set-requires
intern_version_set-requires c =
    let names = c.intern_name.new.pool.names in
    omega (
      arith,
      named_here c.args.set.now.name.now (map string_bytes names) c.in_ok-name.name
          c.in_ok-name.ensures.is,
      length-map names string_bytes,
    )
