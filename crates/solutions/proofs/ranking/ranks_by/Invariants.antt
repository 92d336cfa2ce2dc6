use Rattle.std.proofs.Common.{◌≡◌, map, take}
use Rattle.solutions.proofs.Words.{alternatives_of, is_kept, rank_by}
use Rattle.solutions.proofs.ranking.ranks_by.Given as goal

abbrev pub invariant-loop-wish : goal.invariant-loop-wish
invariant-loop-wish g l =
    let has = is_kept g.D.SolvableId.PartialEq.eq (g.D.SolvableId.Set.IdSet.has l.selection.picked)
    l.selection.left_out in
    l.ranks.items ≡ map (rank_by has) (alternatives_of (take l.wish-index l.wishes))
