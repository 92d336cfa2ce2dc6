use Rattle.debian_provider.proofs.Offered.{grown_itself, ok_any}
use Rattle.debian_provider.proofs.archive.Archive.add_solvable_at.Goals as goal

pub returns-in_default : goal.returns-in_default
returns-in_default c = grown_itself c.args.self.now

pub returns-then-not-has : goal.returns-then-not-has
returns-then-not-has c = grown_itself c.args.self.now

pub returns : goal.returns
returns c = ok_any c.add_version_at.result _ c.in_ok-name.ensures.grown
