use Rattle.std.proofs.Common.{◌==◌, ◌∙◌, sym}
use Rattle.call_texts.proofs.VersionLemmas.{split_none, split_cut}
use Rattle.call_texts.proofs.versions.split_first.Goals as goal

pub returns-in_default-clause-parts : goal.returns-in_default-clause-parts
returns-in_default-clause-parts c =
    split_none (λ b. b == c.args.byte) c.args.text.now (sym c.position.ensures.is ∙ c.in_default.is)

pub returns-clause-parts : goal.returns-clause-parts
returns-clause-parts c =
    split_cut (λ b. b == c.args.byte) c.args.text.now c.in-Some.end (sym c.position.ensures.is ∙ c.in-Some.is)
