use Rattle.debian_provider.proofs.Words.{plain_set}
use Rattle.debian_provider.proofs.Offered.{got_some, offered_at_then}
use Rattle.debian_provider.proofs.archive.Archive.add_set_at.Goals as goal

pub returns-clause-offered : goal.returns-clause-offered
returns-clause-offered c =
    offered_at_then c.add_set.result c.args.self.now c.add_set.new.self c.args.sets.now.items c.add_set.new.sets.items
    c.add_set.ensures.added c.args.place c.in-Some.one.now
    (got_some c.args.self.now.rules.packages.now c.args.place c.in-Some.one c.in-Some.ensures.lookup) _
    c.name_of-name.ensures (plain_set c.args.set) c.add_set.ensures.has
