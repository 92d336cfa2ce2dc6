use Rattle.std.proofs.Common.{◌≡◌, ◌≤◌, ◌+◌, Some, length, subst, sym}
use Rattle.debian_provider.proofs.Words.{option_map, plain_name, slice_get}
use Rattle.debian_provider.proofs.Later.{later_twice}
use Rattle.debian_provider.proofs.interning.add_versions.Goals as goal

pub returns-clause-named : goal.returns-clause-named
returns-clause-named c =
    subst (λ names. option_map plain_name (slice_get names c.in_ok-name.name) ≡ Some (plain_name c.args.name))
    (sym c.in_ok-solvables.ensures.names) c.in_ok-name.ensures.named

pub returns-clause-names : goal.returns-clause-names
returns-clause-names c =
    subst (λ names. length names ≤ length c.args.pool.now.names + 1) (sym c.in_ok-solvables.ensures.names)
    c.in_ok-name.ensures.names

pub returns-clause-later : goal.returns-clause-later
returns-clause-later c = later_twice c.args.pool.now c.intern_name.new.pool c.add_solvables.new.pool
    c.in_ok-name.ensures.later c.in_ok-solvables.ensures.later
