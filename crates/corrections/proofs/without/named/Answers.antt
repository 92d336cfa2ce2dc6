use Rattle.std.proofs.Common.{◌≡◌, ◌++◌, ◌∷◌, [], List, subst, rules}
use Rattle.std.proofs.lemmas.List.{take_all}
use Rattle.corrections.proofs.Words.{AreNamedMarked, ConditionalRequirement}
use Rattle.corrections.proofs.CorrectionLemmas.{marked_more}
use Rattle.corrections.proofs.without.named.Goals as goal

pub loop-place-preserved : goal.loop-place-preserved
loop-place-preserved g c =
    let x = c.index-requested-place.result in
    let pushed : c.push.new.self.items ≡ c.loop-place.marks.items ++ c.is_in_conflict.result ∷ [] = search rules in
    marked_more c.args.requested.now c.args.left_out.now c.args.reasons.now c.loop-place.marks.items
    c.push.new.self.items c.loop-place.place x
    c.is_in_conflict.result c.loop-place-test.true c.index-requested-place.is pushed c.is_in_conflict.ensures
    c.loop-place.invariant

pub returns : goal.returns
returns g c =
    subst (λ (l : List ConditionalRequirement). AreNamedMarked l c.args.left_out.now c.args.reasons.now
    c.loop-place.marks.items)
    (take_all c.loop-place.place c.args.requested.now c.loop-place-test.false) c.loop-place.invariant.1
