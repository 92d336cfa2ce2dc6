use Rattle.std.proofs.Common.{◌∙◌, map, ap}
use Rattle.std.proofs.Math.Path.{fun_ext}
use Rattle.solutions.proofs.Words.{alternatives_of, rank_by}
use Rattle.solutions.proofs.DecisionLemmas.{answered}
use Rattle.solutions.proofs.ranking.ranks.Goals as goal

pub returns : goal.returns
returns g c =
    answered c.ranks_by.result (λ ranks is. is
    ∙ ap (λ h. map (rank_by h) (alternatives_of c.args.wishes.now)) (fun_ext c.in_ok-selection.ensures.picked))
    c.ranks_by.ensures
