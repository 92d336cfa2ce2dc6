use Rattle.debian_provider.proofs.Words.{AreDemanded, AreMetFor, IsGrown, plain_package}
use Rattle.debian_provider.proofs.archive.Archive.add_required.Given as goal

-- so of what was read so far
abbrev pub invariant-loop-group : goal.invariant-loop-group
invariant-loop-group l = record {
  grown : IsGrown l.fn.self l.self;
  needs : AreMetFor l.fn.self.rules (plain_package l.one) l.field →
      AreDemanded l.fn.self l.self (plain_package l.one) l.fn.requirements.items l.requirements.items;
}
