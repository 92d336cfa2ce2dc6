use Rattle.debian_provider.proofs.Offered.{grown_itself}
use Rattle.debian_provider.proofs.archive.Archive.add_solvables_of.Goals as goal

pub returns-in_default : goal.returns-in_default
returns-in_default c = grown_itself c.args.self.now
