use Rattle.std.proofs.Common.{◌∙◌, sym}
use Rattle.debian_installable.proofs.ListLemmas.{stand_together-drop}
use Rattle.debian_installable.proofs.installable.stand_together.Goals as goal

pub packages-preserved : goal.packages-preserved
packages-preserved c =
    c.packages.invariant
    ∙ stand_together-drop c.args.native.now c.args.there.now c.packages.i _ c.packages-test.true
    (sym c.stands_beside.ensures ∙ c.if-not-stands_beside.false)
