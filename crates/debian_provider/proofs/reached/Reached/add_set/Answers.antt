use Rattle.std.proofs.Common.{◌∙◌, ap, refl}
use Rattle.debian_provider.proofs.Words.{interned, option_map, plain_entry, same_set, slice_get}
use Rattle.debian_provider.specs.contracts.set.SetPartialEq.TheImpl.{eq-value as of_sets}
use Rattle.debian_provider.proofs.More.{more_by_set}
use Rattle.debian_provider.proofs.SameSets.{entry_at}
use Rattle.debian_provider.proofs.reached.Reached.add_set.Goals as goal

pub returns-in-Ok-clause-entry : goal.returns-in-Ok-clause-entry
returns-in-Ok-clause-entry c =
    let sets = c.args.self.now.pool.version_sets in
    ap (λ pool. option_map plain_entry (slice_get pool.version_sets c.in-Ok.id.0)) c.in-Ok.ensures.ok
    ∙ ap (λ place. option_map plain_entry (slice_get (interned (same_set of_sets.it) sets
    (c.args.name, c.args.set)) place)) c.in-Ok.ensures.id
    ∙ entry_at sets c.args.name c.args.set

pub returns-in-Ok-clause-more : goal.returns-in-Ok-clause-more
returns-in-Ok-clause-more c =
    more_by_set c.args.self.now _ refl of_sets.it c.args.name c.args.set c.in-Ok.ensures.ok
