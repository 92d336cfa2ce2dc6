use Rattle.std.proofs.Common.{◌≡◌, ◌∷◌, [], ◌++◌, ◌+◌, ◌∙◌, true, sym, ap, subst, take, drop}
use Rattle.std.proofs.lemmas.List.{take_more, take_all, take-append-drop}
use Rattle.solver_cache.proofs.Words.{with_hints}
use Rattle.solver_cache.proofs.CacheLemmas.{on_err}
use Rattle.solver_cache.proofs.HintLemmas.{no_hints, one_hint, still_marked, more_hints}
use Rattle.solver_cache.proofs.hints.mark_all.Goals as goal

pub loop-solvable-init : goal.loop-solvable-init
loop-solvable-init g c = λ s. no_hints g.S.PartialEq.eq g.S.Set.IdSet.is_too_large
    (g.S.Set.IdSet.has c.args.hinted.now) s

pub loop-solvable-preserved : goal.loop-solvable-preserved
loop-solvable-preserved g c =
    let ss = c.args.solvables.now in
    let i = c.loop-solvable.solvable-index in
    let x = c.solvable-item.result in
    let more : take (i + 1) ss ≡ take i ss ++ x ∷ [] = take_more ss i x c.loop-solvable-test.true
    ∙ ap (λ y. take i ss ++ y ∷ []) (sym c.solvable-item.is) in
    rw more (one_hint g.S.PartialEq.eq g.S.Set.IdSet.is_too_large _ _ _
    (take i ss) x c.loop-solvable.invariant c.in_ok-mark.ensures.ok)

pub returns-clause-ok : goal.returns-clause-ok
returns-clause-ok g c =
    let ss = c.args.solvables.now in
    let all : take c.loop-solvable.solvable-index ss ≡ ss =
    take_all c.loop-solvable.solvable-index ss c.loop-solvable-test.false in
    λ s. c.loop-solvable.invariant s
    ∙ ap (λ l. with_hints g.S.PartialEq.eq g.S.Set.IdSet.is_too_large (g.S.Set.IdSet.has c.args.hinted.now) l s) all

pub returns-in_err-mark-clause-err : goal.returns-in_err-mark-clause-err
returns-in_err-mark-clause-err g c =
    let same = g.S.PartialEq.eq in
    let is_large = g.S.Set.IdSet.is_too_large in
    let old = g.S.Set.IdSet.has c.args.hinted.now in
    let ss = c.args.solvables.now in
    let i = c.loop-solvable.solvable-index in
    on_err _ c.from_residual.result (record {
      kept = λ s h. c.in_err-mark.ensures.err s ∙ c.loop-solvable.invariant s ∙ still_marked same is_large old _ s h;
      within = λ s h. subst (λ l. with_hints same is_large old l s ≡ true) (take-append-drop i ss)
          (more_hints same is_large old (take i ss) (drop i ss) s (sym (c.loop-solvable.invariant s)
          ∙ sym (c.in_err-mark.ensures.err s) ∙ h));
    })
