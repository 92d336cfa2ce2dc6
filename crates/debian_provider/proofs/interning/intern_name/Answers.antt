use Rattle.std.proofs.Common.{◌∙◌, ◌≤◌, ◌+◌, ap, length, subst, sym}
use Rattle.debian_provider.proofs.Words.{interned, IsLater, option_map, plain_name, slice_get}
use Rattle.debian_provider.proofs.Later.{interned_one_more, later_with_name}
use Rattle.debian_provider.proofs.Named.{interned_at, same_names, NameEq}
use Rattle.debian_provider.proofs.interning.intern_name.Goals as goal

pub returns-in-Ok-clause-named : goal.returns-in-Ok-clause-named
returns-in-Ok-clause-named c =
    let names = c.args.pool.now.names in
    let name = c.args.name in
    ap (λ pool. option_map plain_name (slice_get pool.names c.in-Ok.id)) c.in-Ok.ensures.ok
    ∙ ap (λ place. option_map plain_name (slice_get (interned NameEq names name) place)) c.in-Ok.ensures.id
    ∙ interned_at plain_name NameEq name (same_names name) names

pub returns-in-Ok-clause-names : goal.returns-in-Ok-clause-names
returns-in-Ok-clause-names c =
    subst (λ pool. length pool.names ≤ length c.args.pool.now.names + 1) (sym c.in-Ok.ensures.ok)
    (interned_one_more NameEq c.args.pool.now.names c.args.name)

pub returns-in-Ok-clause-later : goal.returns-in-Ok-clause-later
returns-in-Ok-clause-later c = subst (IsLater c.args.pool.now) (sym c.in-Ok.ensures.ok)
    (later_with_name c.args.pool.now NameEq c.args.name)
