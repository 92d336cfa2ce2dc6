use Rattle.std.proofs.Common.{◌∙◌, sym}
use Rattle.script_packages.proofs.Stars.{no_star}
use Rattle.script_packages.proofs.versions.favored_place.Goals as goal

pub returns-then-not-contains-clause-ok : goal.returns-then-not-contains-clause-ok
returns-then-not-contains-clause-ok c =
    no_star c.args.text.now (sym c.contains.ensures.value ∙ c.if-not-contains.true)
