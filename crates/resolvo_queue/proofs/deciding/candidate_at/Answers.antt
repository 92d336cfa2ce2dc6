use Rattle.std.proofs.Common.{ap, sym, ◌∙◌}
use Rattle.resolvo_queue.proofs.Words.{offer_with, score_by}
use Rattle.resolvo_queue.proofs.Picks.Ready.{read_here}
use Rattle.resolvo_queue.proofs.Lists.{same_some}
use Rattle.resolvo_queue.proofs.deciding.candidate_at.Goals as goal

pub returns-clause-offer : goal.returns-clause-offer
returns-clause-offer g c = λ d s. c.offer_at.ensures
    ∙ ap (λ x. offer_with (score_by g.I.Interner.universe g.I.NameId.Scores.IdMap.value_at c.args.question.now) x
    c.args.frontier) (same_some c.index-clause.result.now d
    (sym (read_here c.args.tracked.now.index.clauses.items c.args.position c.requires.of c.index-clause.result.now
    c.index-clause.ensures) ∙ s))
