use Rattle.debian_provider.proofs.Words.{IsGrown}
use Rattle.debian_provider.proofs.archive.Archive.solvables_meeting.Given as goal

abbrev pub invariant-loop-part : goal.invariant-loop-part
invariant-loop-part l = IsGrown l.fn.self l.self
