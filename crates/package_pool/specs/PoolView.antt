-- What is seen of a pool.
use Rattle.std.specs.Prelude.{map, string_bytes}
use Rattle.package_pool.specs.declared.pool.Pool.TheInside.{Inside}
use Rattle.package_pool.specs.Pool.{Lists}

-- the values of its tables
abbrev pub lists_in : {VS N A V : Type 0} → Inside VS N A V → Lists N VS V
lists_in p = record {
  strings = map string_bytes p.strings.keys;
  names = p.names.keys;
  solvables = p.solvables;
  version_sets = p.version_sets.keys;
  unions = p.unions;
  conditions = p.conditions.keys;
}
