use Rattle.std.proofs.Common.{[], map, take}
use Rattle.debian_provider.proofs.Words.{AreOfLost, IsAdded, plain_package}
use Rattle.debian_provider.proofs.archive.Archive.sets_of_lost.Given as goal

-- the lost ones of the packages so far
abbrev pub invariant-loop-one : goal.invariant-loop-one
invariant-loop-one l = record {
  added : IsAdded l.fn.self l.self [] l.sets.items;
  lost : AreOfLost (map plain_package l.few.packages.now) l.fn.self.rules l.self.reached.pool
      (map plain_package (take l.one-index l.fn.self.rules.packages.now)) l.sets.items;
}
