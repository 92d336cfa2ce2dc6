use Rattle.debian_provider.proofs.Wider.{rules_then, whole_then}
use Rattle.debian_provider.proofs.archive.Archive.new.Goals as goal

pub returns-in-Ok-clause-rules : goal.returns-in-Ok-clause-rules
returns-in-Ok-clause-rules c =
    rules_then c.filled.result c.in-Ok.archive c.args.rules c.in-Ok.ensures.rules c.filled.ensures.wider

pub returns-in-Ok-clause-whole : goal.returns-in-Ok-clause-whole
returns-in-Ok-clause-whole c =
    whole_then c.filled.result c.in-Ok.archive c.filled.ensures.wider c.filled.ensures.closed c.in-Ok.ensures.named
    c.in-Ok.ensures.unread c.in-Ok.ensures.free
