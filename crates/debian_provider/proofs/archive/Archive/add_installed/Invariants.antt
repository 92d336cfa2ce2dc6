use Rattle.debian_provider.proofs.Words.{IsWider}
use Rattle.debian_provider.proofs.archive.Archive.add_installed.Given as goal

abbrev pub invariant-loop-one : goal.invariant-loop-one
invariant-loop-one l = IsWider l.fn.self l.self
