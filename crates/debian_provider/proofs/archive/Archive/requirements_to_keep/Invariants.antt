use Rattle.std.proofs.Common.{map}
use Rattle.debian_provider.proofs.Words.{AreKept, IsGrown, plain_package}
use Rattle.debian_provider.proofs.archive.Archive.requirements_to_keep.Given as goal

abbrev pub invariant-loop-one : goal.invariant-loop-one
invariant-loop-one l = IsGrown l.fn.self l.self × AreKept (map plain_package l.few.packages.now) l.self l.all.items
