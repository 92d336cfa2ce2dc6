use Rattle.debian_provider.proofs.Words.{AreLimited, IsGrown, plain_package}
use Rattle.debian_provider.proofs.archive.Archive.add_others.Given as goal

-- what was added so far limits the package
abbrev pub invariant-loop-place : goal.invariant-loop-place
invariant-loop-place l = record {
  grown : IsGrown l.fn.self l.self;
  limits : AreLimited l.fn.self l.self (plain_package l.one) l.fn.constrains.items l.constrains.items;
}
