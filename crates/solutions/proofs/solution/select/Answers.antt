use Rattle.std.proofs.Common.{◌≡◌, ◌∷◌, [], ◌++◌, ◌+◌, ◌∙◌, sym, ap, take}
use Rattle.std.proofs.lemmas.List.{take_more, take_all}
use Rattle.solutions.proofs.Words.{list_any}
use Rattle.solutions.proofs.MemberLemmas.{one_more}
use Rattle.solutions.proofs.solution.select.Goals as goal

pub loop-solvable-preserved : goal.loop-solvable-preserved
loop-solvable-preserved g c =
    let ss = c.args.solvables.now in
    let i = c.loop-solvable.solvable-index in
    let x = c.solvable-item.result in
    let more : take (i + 1) ss ≡ take i ss ++ x ∷ [] = take_more ss i x c.loop-solvable-test.true
    ∙ ap (λ y. take i ss ++ y ∷ []) (sym c.solvable-item.is) in
    rw more (one_more g.D.SolvableId.PartialEq.eq g.met.D.SolvableId.Eq.laws.refl g.met.D.SolvableId.SameValue.same
    _ _ (take i ss) x c.loop-solvable.invariant c.in_ok-insert.ensures.ok)

pub returns-clause-picked : goal.returns-clause-picked
returns-clause-picked g c =
    let ss = c.args.solvables.now in
    λ s. c.loop-solvable.invariant s
    ∙ ap (list_any (g.D.SolvableId.PartialEq.eq s))
    (take_all c.loop-solvable.solvable-index ss c.loop-solvable-test.false)
