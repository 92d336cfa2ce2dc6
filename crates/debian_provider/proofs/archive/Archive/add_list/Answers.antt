use Rattle.debian_provider.proofs.Offered.{grown_itself}
use Rattle.debian_provider.proofs.archive.Archive.add_list.Goals as goal

pub returns-then-is_blank : goal.returns-then-is_blank
returns-then-is_blank c = grown_itself c.args.self.now
