use Rattle.std.proofs.Common.{◌≡◌, ◌∙◌, ◌++◌, ◌∷◌, [], map, ap, rules}
use Rattle.std.proofs.lemmas.List.{take_all}
use Rattle.solutions.proofs.Words.{alternatives_of, is_kept, rank_by}
use Rattle.solutions.proofs.RankLemmas.{ranks_more}
use Rattle.solutions.proofs.ranking.ranks_by.Goals as goal

pub loop-wish-preserved : goal.loop-wish-preserved
loop-wish-preserved g c =
    let has = is_kept g.D.SolvableId.PartialEq.eq (g.D.SolvableId.Set.IdSet.has c.args.selection.now.picked)
    c.args.selection.now.left_out in
    let wish = c.wish-item.result in
    let ranks = c.loop-wish.ranks.items in
    let pushed : c.push.new.self.items ≡ ranks ++ c.rank.result ∷ [] = search rules in
    ranks_more (rank_by has) c.args.wishes.now c.loop-wish.wish-index wish ranks c.push.new.self.items c.rank.result
    c.loop-wish-test.true c.wish-item.is
    pushed (c.rank.ensures ∙ ap (rank_by has) c.deref.ensures.value) c.loop-wish.invariant

pub returns : goal.returns
returns g c =
    let has = is_kept g.D.SolvableId.PartialEq.eq (g.D.SolvableId.Set.IdSet.has c.args.selection.now.picked)
    c.args.selection.now.left_out in
    c.loop-wish.invariant ∙ ap (λ wishes. map (rank_by has) (alternatives_of wishes))
    (take_all c.loop-wish.wish-index c.args.wishes.now c.loop-wish-test.false)
