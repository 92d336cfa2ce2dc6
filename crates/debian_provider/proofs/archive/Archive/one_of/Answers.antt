use Rattle.debian_provider.proofs.Offered.{grown_itself, grown_more}
use Rattle.debian_provider.proofs.archive.Archive.one_of.Goals as goal

pub returns-in_ok-union-in-len1-up-clause-grown : goal.returns-in_ok-union-in-len1-up-clause-grown
returns-in_ok-union-in-len1-up-clause-grown c =
    grown_more c.args.self.now c.args.self.now c.add_union.new.self (grown_itself c.args.self.now)
    c.in_ok-union-in-len1-up.ensures.more
