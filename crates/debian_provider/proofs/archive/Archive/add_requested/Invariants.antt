use Rattle.debian_provider.proofs.Words.{IsWider}
use Rattle.debian_provider.proofs.archive.Archive.add_requested.Given as goal

abbrev pub invariant-loop-name : goal.invariant-loop-name
invariant-loop-name l = IsWider l.fn.self l.self
