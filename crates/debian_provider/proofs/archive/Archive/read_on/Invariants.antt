use Rattle.debian_provider.proofs.Words.{IsWider}
use Rattle.debian_provider.proofs.archive.Archive.read_on.Given as goal

abbrev pub invariant-loop : goal.invariant-loop
invariant-loop l = IsWider l.fn.self l.self
