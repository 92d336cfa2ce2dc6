use Rattle.std.proofs.Common.{◌≡◌, ◌∙◌, ◌||◌, true, false, get_or, ap, sym, rules}
use Rattle.std.proofs.lemmas.List.{take_all}
use Rattle.std.proofs.lemmas.List.Folds.{list_any_more}
use Rattle.solutions.proofs.Words.{is_kept, is_so_by, list_any}
use Rattle.solutions.proofs.RankLemmas.{before_first, before_none}
use Rattle.solutions.proofs.ranking.rank.Goals as goal

pub loop-place-preserved : goal.loop-place-preserved
loop-place-preserved g c =
    let test = is_so_by (is_kept g.D.SolvableId.PartialEq.eq
    (g.D.SolvableId.Set.IdSet.has c.args.selection.now.picked) c.args.selection.now.left_out) in
    let xs = c.args.alternatives.now in
    let i = c.loop-place.place in
    let x = c.index-alternatives-place.result in
    let no : c.is_so.result ≡ false = search rules in
    list_any_more test xs i x c.loop-place-test.true ∙ ap (λ b. b || test (get_or xs i x)) c.loop-place.invariant
    ∙ ap test (sym c.index-alternatives-place.is) ∙ sym c.is_so.ensures ∙ no

pub returns-then-is_so : goal.returns-then-is_so
returns-then-is_so g c =
    let test = is_so_by (is_kept g.D.SolvableId.PartialEq.eq
    (g.D.SolvableId.Set.IdSet.has c.args.selection.now.picked) c.args.selection.now.left_out) in
    let xs = c.args.alternatives.now in
    let i = c.loop-place.place in
    let x = c.index-alternatives-place.result in
    let yes : c.is_so.result ≡ true = search rules in
    sym (before_first test xs i x c.loop-place-test.true c.loop-place.invariant
    (ap test (sym c.index-alternatives-place.is) ∙ sym c.is_so.ensures ∙ yes))

pub returns : goal.returns
returns g c =
    let test = is_so_by (is_kept g.D.SolvableId.PartialEq.eq
    (g.D.SolvableId.Set.IdSet.has c.args.selection.now.picked) c.args.selection.now.left_out) in
    let xs = c.args.alternatives.now in
    sym (before_none test xs (ap (list_any test) (sym (take_all c.loop-place.place xs c.loop-place-test.false))
    ∙ c.loop-place.invariant))
