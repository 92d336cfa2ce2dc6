use Rattle.debian_provider.proofs.Words.{IsGrown}
use Rattle.debian_provider.proofs.archive.Archive.meeting.Given as goal

abbrev pub invariant-loop-group : goal.invariant-loop-group
invariant-loop-group l = IsGrown l.fn.self l.self
