use Rattle.std.proofs.Common.{◌∙◌, true≢false, subst, sym}
use Rattle.std.proofs.lemmas.List.{take_all}
use Rattle.std.proofs.lemmas.List.Elements.{All-contains, All-more}
use Rattle.corrections.proofs.Words.{All, IsNamedBy, Reason}
use Rattle.corrections.proofs.without.is_named.Goals as goal

pub loop-reason-preserved : goal.loop-reason-preserved
loop-reason-preserved g c =
    let P = λ (r : Reason g.row.N.Denot g.row.S.Denot). IsNamedBy c.args.conditional.now r → ⊥ in
    All-more P c.args.reasons.now c.loop-reason.reason-index c.reason-item.result c.loop-reason-test.true
    c.loop-reason.invariant
    (subst P c.reason-item.is (λ names. true≢false (sym (c.is_named_by.ensures names) ∙ c.if-is_named_by.false)))

pub returns : goal.returns
returns g c = λ named.
    let P = λ (r : Reason g.row.N.Denot g.row.S.Denot). IsNamedBy c.args.conditional.now r → ⊥ in
    absurd (All-contains P c.args.reasons.now named.0
    (subst (All P) (take_all c.loop-reason.reason-index c.args.reasons.now c.loop-reason-test.false)
    c.loop-reason.invariant) named.1 named.2)
