use Rattle.std.proofs.Common.{true, false, ◌∙◌, sym}
use Rattle.debian_directory.proofs.Standing.{stand_together-at}
use Rattle.debian_directory.proofs.together.Together.stand_together.Goals as goal

pub loop-place-preserved : goal.loop-place-preserved
loop-place-preserved c =
    let own = c.args.self.now in
    c.loop-place.invariant
    ∙ stand_together-at own.native.now own.packages.now c.loop-place.place _ true c.loop-place-test.true
    (sym c.stands_beside_later.ensures ∙ c.if-not-stands_beside_later.false)

pub returns-then-not-stands_beside_later : goal.returns-then-not-stands_beside_later
returns-then-not-stands_beside_later c =
    let own = c.args.self.now in
    sym (c.loop-place.invariant
    ∙ stand_together-at own.native.now own.packages.now c.loop-place.place _ false c.loop-place-test.true
    (sym c.stands_beside_later.ensures ∙ c.if-not-stands_beside_later.true))
