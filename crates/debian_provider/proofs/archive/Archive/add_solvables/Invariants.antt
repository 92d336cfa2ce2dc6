use Rattle.debian_provider.proofs.Words.{IsGrown}
use Rattle.debian_provider.proofs.archive.Archive.add_solvables.Given as goal

abbrev pub invariant-loop-place : goal.invariant-loop-place
invariant-loop-place l = IsGrown l.fn.self l.self
