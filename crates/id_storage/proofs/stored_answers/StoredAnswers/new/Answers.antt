use Rattle.id_storage.proofs.AnswerLemmas.{none_kept}
use Rattle.id_storage.proofs.stored_answers.StoredAnswers.new.Goals as goal

pub invariant_of-result : goal.invariant_of-result
invariant_of-result g c =
    rw c.new.ensures (none_kept g.K.PartialEq.eq g.K.SolverId.is_id g.I.DenseIndex.limit _ c.new-2.ensures)
