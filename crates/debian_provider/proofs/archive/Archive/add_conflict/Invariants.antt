use Rattle.debian_provider.proofs.Words.{AreLimited, IsFreeFor, IsGrown, plain_package, plain_relation}
use Rattle.debian_provider.proofs.archive.Archive.add_conflict.Given as goal

-- what was added so far limits the package
abbrev pub invariant-loop-place : goal.invariant-loop-place
invariant-loop-place l = record {
  grown : IsGrown l.fn.self l.self;
  limits : IsFreeFor l.fn.self.rules (plain_package l.one) (plain_relation l.relation) →
      AreLimited l.fn.self l.self (plain_package l.one) l.fn.constrains.items l.constrains.items;
}
