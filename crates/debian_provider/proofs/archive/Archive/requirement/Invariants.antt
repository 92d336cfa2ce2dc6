use Rattle.std.proofs.Common.{[]}
use Rattle.std.specs.Prelude.{All}
use Rattle.debian_provider.proofs.Words.{IsAdded, IsOffered, plain_package, relation_of}
use Rattle.debian_provider.proofs.archive.Archive.requirement.Given as goal

-- what meets the alternatives so far is offered
abbrev pub invariant-loop-part : goal.invariant-loop-part
invariant-loop-part l = record {
  added : IsAdded l.fn.self l.self [] l.sets.items;
  offered : All (λ part. IsOffered l.self.rules l.self.reached.pool (plain_package l.one) l.sets.items
      (relation_of part.now)) l.yielded;
}
