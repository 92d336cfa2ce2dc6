use Rattle.std.proofs.Common.{◌≤◌, ◌∙◌, Bool, ap, subst}
use Rattle.std.proofs.lemmas.List.{take_all}
use Rattle.std.proofs.lemmas.List.Elements.{All-more}
use Rattle.corrections.proofs.Words.{All, size, Vec}
use Rattle.corrections.proofs.marks.are_as_large.Goals as goal

pub loop-set-preserved : goal.loop-set-preserved
loop-set-preserved g c =
    let P = λ (s : Vec Bool g.row.A.Denot). c.args.least ≤ size s.items in
    All-more P c.args.sets.now c.loop-set.set-index c.set-item.result c.loop-set-test.true c.loop-set.invariant
    (subst P c.set-item.is (subst (λ n. c.args.least ≤ n) (c.size.ensures ∙ ap size c.deref.ensures.value)
    c.if-size-least.false))

pub returns : goal.returns
returns g c = λ yes.
    let P = λ (s : Vec Bool g.row.A.Denot). c.args.least ≤ size s.items in
    subst (All P) (take_all c.loop-set.set-index c.args.sets.now c.loop-set-test.false) c.loop-set.invariant
