use Rattle.std.proofs.Common.{◌≡◌, ◌∙◌, ◌+◌, ◌++◌, ◌∷◌, [], sym, ap, subst, take}
use Rattle.std.proofs.lemmas.List.{take_more, take_all}
use Rattle.solutions.proofs.Words.{IsStateOf}
use Rattle.solutions.proofs.clause_state.state_of.Goals as goal

pub loop-literal-preserved : goal.loop-literal-preserved
loop-literal-preserved g c =
    let trail = c.args.trail.now.literals.items in
    let clause = c.args.clause.now in
    let i = c.loop-literal.literal-index in
    let l = c.literal-item.result in
    let more : take (i + 1) clause ≡ take i clause ++ l ∷ [] =
    take_more clause i l c.loop-literal-test.true ∙ ap (λ k. take i clause ++ k ∷ []) (sym c.literal-item.is) in
    subst (λ literals. IsStateOf trail literals c.with-state.result) (sym more)
    (c.with-state.ensures trail (take i clause) c.value.ensures c.loop-literal.invariant)

pub returns : goal.returns
returns g c =
    subst (λ literals. IsStateOf c.args.trail.now.literals.items literals c.loop-literal.state)
    (take_all c.loop-literal.literal-index c.args.clause.now c.loop-literal-test.false) c.loop-literal.invariant
