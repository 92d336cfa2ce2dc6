use Rattle.debian_provider.proofs.Words.{plain_name}
use Rattle.debian_provider.specs.Sets.{All as Whole}
use Rattle.debian_provider.proofs.Named.{is_set}
use Rattle.debian_provider.proofs.Offered.{grown_more}
use Rattle.debian_provider.proofs.archive.Archive.requirement_of.Goals as goal

pub returns-clause-grown : goal.returns-clause-grown
returns-clause-grown c = grown_more c.args.self.now c.reach.new.self c.add_set.new.self c.in_ok-id.ensures.grown
    c.in_ok-set.ensures.more

pub returns-clause-of : goal.returns-clause-of
returns-clause-of c = is_set c.reach.new.self.reached.pool c.add_set.new.self.pool c.in_ok-set.ensures.more.later
    c.in_ok-id.id (plain_name c.args.name) Whole c.in_ok-set.set c.in_ok-id.ensures.named c.in_ok-set.ensures.entry
