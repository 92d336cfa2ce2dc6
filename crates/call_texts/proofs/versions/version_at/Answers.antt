use Rattle.call_texts.proofs.VersionLemmas.{three_parts}
use Rattle.call_texts.proofs.versions.version_at.Goals as goal

pub returns-in-Some-split_first : goal.returns-in-Some-split_first
returns-in-Some-split_first c =
    three_parts c.args.at c.args.line.now c.in-Some.name.now c.in-Some.version.now
    c.in-Some-split_first.field-0.0.now c.in-Some-split_first.field-0.1.now c.in-Some.ensures.parts
    c.in-Some-split_first.ensures.parts
