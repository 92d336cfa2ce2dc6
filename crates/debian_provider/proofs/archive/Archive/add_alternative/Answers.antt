use Rattle.std.proofs.Common.{Option, subst}
use Rattle.debian_provider.proofs.Words.{IsOffered, OnOk, plain_package, RelationText}
use Rattle.debian_provider.proofs.archive.Archive.add_alternative.Goals as goal

pub returns-clause-offered : goal.returns-clause-offered
returns-clause-offered c =
    subst (λ (relation : Option RelationText). OnOk c.add_meeting.result (IsOffered c.add_meeting.new.self.rules
    c.add_meeting.new.self.reached.pool (plain_package c.args.one.now) c.add_meeting.new.sets.items relation))
    c.in-Some.ensures c.add_meeting.ensures.offered
