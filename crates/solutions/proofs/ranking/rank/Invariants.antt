use Rattle.std.proofs.Common.{◌≡◌, false, take}
use Rattle.solutions.proofs.Words.{is_kept, is_so_by, list_any}
use Rattle.solutions.proofs.ranking.rank.Given as goal

abbrev pub invariant-loop-place : goal.invariant-loop-place
invariant-loop-place g l =
    let has = is_kept g.D.SolvableId.PartialEq.eq (g.D.SolvableId.Set.IdSet.has l.selection.picked)
    l.selection.left_out in
    list_any (is_so_by has) (take l.place l.alternatives) ≡ false
