use Rattle.debian_provider.proofs.Words.{AreFreeFor, AreLimited, IsGrown, plain_package}
use Rattle.debian_provider.proofs.archive.Archive.add_conflicts.Given as goal

-- so of what was read so far
abbrev pub invariant-loop-part : goal.invariant-loop-part
invariant-loop-part l = record {
  grown : IsGrown l.fn.self l.self;
  limits : AreFreeFor l.fn.self.rules (plain_package l.one) l.field →
      AreLimited l.fn.self l.self (plain_package l.one) l.fn.constrains.items l.constrains.items;
}
